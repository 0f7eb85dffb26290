-- Opening the exception data of an image, and the record at an index of its table.
-- Assumes nothing.
use Rattle.runtime_function.specs.declared.RuntimeFunction.{RuntimeFunction}
use Rattle.std.specs.Prelude.{Result, Ok, Err, Option, Some, None, ℕ, ◌/◌, ◌%◌, List, Bool, false, ltb, eqb}
use Rattle.answer.specs.Answer.{on_ok, refuse_of, contradiction, no_section, not_found, machine}
use Rattle.answer.specs.declared.Refusal.{Refusal}
use Rattle.answer.specs.Test.{pick, must, in_limit}
use Rattle.pe_optional.specs.declared.DataDirectory.{DataDirectory}
use Rattle.pe_header.specs.Header.{open_of as open_header_of}
use Rattle.pe_header.specs.declared.Header.{Header}
use Rattle.pe_mapping.specs.Mapping.{find_offset_of}
use Rattle.pe_mapping.specs.declared.Sections.{Sections}
use Rattle.runtime_table.specs.Table.{stride, get_entry_of}
use Rattle.runtime_table.specs.Check.{check_of}
use Rattle.exception_data.specs.declared.RecordForm.TheVariants.{X64}
use Rattle.exception_data.specs.declared.ExceptionData.{ExceptionData}

-- 8.2: the machine of x64
abbrev pub x64_machine : ℕ
x64_machine = 0x8664

-- 8.3: by whether there is an exception directory
abbrev pub on_directory : {A : Type 0} → Option DataDirectory → A → (DataDirectory → A) → A
on_directory None missing on = missing
on_directory (Some d) missing on = on d

-- 8.3: its address and size are both 0
abbrev pub empty_of : DataDirectory → Bool
empty_of d = pick (eqb d.virtual_address 0) (eqb d.size 0) false

-- 8.4: a table has a record for each 12 bytes of its directory
abbrev pub count_of : DataDirectory → ℕ
count_of d = d.size / stride

-- 8.10: what mapping needs
abbrev pub sections_of : Header → Sections
sections_of h = record { table = h.section_table; count = h.number_of_sections; alignment = h.file_alignment }

-- 8.10: what opening answers of a table at `offset`
abbrev pub opened_of : Header → DataDirectory → ℕ → ExceptionData
opened_of h d offset = record { form = X64; table = offset; count = count_of d; sections = sections_of h }

-- 8.1: what opening answers: the checks in their order
unfoldable pub open_of : List ℕ → Result ExceptionData Refusal
open_of s =
    -- 8.1: all checks of the headers and of the section table
    on_ok (open_header_of s) Err
    (λ h.
    -- 8.2: the machine is 0x8664 (15)
    must Err (eqb h.machine x64_machine) machine
    -- 8.3: there is an exception directory, and its address and size are not both 0 (10)
    (on_directory h.exceptions (Err (refuse_of not_found))
    (λ d.
    pick (empty_of d)
    (Err (refuse_of not_found))
    -- 8.4: its size is a multiple of 12 (4)
    (must Err (eqb (d.size % stride) 0) contradiction
    -- 8.5: its address is mapped to a file offset (5)
    (on_ok (find_offset_of s (sections_of h) d.virtual_address) Err
    (λ offset.
    -- 8.6: which is a multiple of 4 (5)
    must Err (eqb (offset % 4) 0) no_section
    -- 8.7, 8.8: the table ends in the file (1), and its records are in order (9)
    (on_ok (check_of s offset (count_of d)) Err (λ u. Ok (opened_of h d offset)))))))))

-- 8.12: the record at an index of an opened table
unfoldable pub get_function_of : List ℕ → ExceptionData → ℕ → Result RuntimeFunction Refusal
get_function_of s opened index =
    -- 3.1: the file's length (3)
    in_limit Err s
    -- 3.8: an index at or after the count is 10, before its record is read
    (must Err (ltb index opened.count) not_found (get_entry_of s opened.table index))
