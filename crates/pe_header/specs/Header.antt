-- All checks of the headers and of the section table in file order, and what the headers of an accepted file say.
-- Assumes nothing.
use Rattle.std.specs.Prelude.{Result, Ok, Err, ℕ, zero, suc, ◌+◌, List, false, eqb}
use Rattle.answer.specs.Answer.{on_ok, magic}
use Rattle.answer.specs.Test.{must, in_limit}
use Rattle.answer.specs.declared.Refusal.{Refusal}
use Rattle.fields.specs.Field.{read_of as field_of}
use Rattle.pe_dos.specs.Dos.{read_of as dos_at}
use Rattle.pe_coff.specs.Coff.{read_of as coff_at}
use Rattle.pe_coff.specs.declared.CoffHeader.{CoffHeader}
use Rattle.pe_optional.specs.Optional.{read_of as optional_at}
use Rattle.pe_optional.specs.declared.OptionalHeader.{OptionalHeader}
use Rattle.pe_section.specs.Section.{read_of as row_at}
use Rattle.pe_header.specs.declared.Header.{Header}

-- 6.1, 6.2: the PE pointer of the DOS header at offset 0, any value
unfoldable pub pointer_in : List ℕ → Result ℕ Refusal
pointer_in s = on_ok (dos_at s 0) Err (λ d. Ok d.pe_pointer)

-- 6.3: the number of the signature
abbrev pub pe_magic : ℕ
pe_magic = 0x00004550

-- 6.3, 6.4: the signature at the PE pointer must be there (1) and be that number (2); the COFF header follows it
unfoldable pub coff_in : List ℕ → ℕ → Result CoffHeader Refusal
coff_in s pe =
    field_of (λ n. must Err (eqb n pe_magic) magic (coff_at s (pe + 4))) Err false 4 s pe

-- 6.6: the optional header begins 24 bytes after the PE pointer
abbrev pub optional_offset_of : ℕ → ℕ
optional_offset_of pe = pe + 4 + 20

-- 6.14: `on` where each of `n` rows from `at` is there; else 1, in table order
unfoldable pub rows_at : {A : Type 0} → (Refusal → A) → ℕ → List ℕ → ℕ → A → A
rows_at refusal zero s at on = on
rows_at refusal (suc n) s at on = on_ok (row_at s at) refusal (λ h. rows_at refusal n s (at + 40) on)

-- 6.15: what the headers say; 6.13: the section table begins where the stated size of the optional header ends
abbrev pub header_of : ℕ → CoffHeader → OptionalHeader → Header
header_of pe c o =
    record {
      pe_pointer = pe;
      machine = c.machine;
      number_of_sections = c.number_of_sections;
      optional_offset = optional_offset_of pe;
      optional_size = c.size_of_optional_header;
      magic = o.magic;
      file_alignment = o.file_alignment;
      number_of_directories = o.number_of_directories;
      exceptions = o.exceptions;
      section_table = optional_offset_of pe + c.size_of_optional_header;
    }

-- 6.15: what opening a file answers: the first refusal in file order, or what its headers say
unfoldable pub open_of : List ℕ → Result Header Refusal
open_of s =
    -- 3.1: the file's length comes first
    in_limit Err s
    (on_ok (pointer_in s) Err
    (λ pe.
    on_ok (coff_in s pe) Err
    (λ c.
    on_ok (optional_at s (optional_offset_of pe) c.size_of_optional_header) Err
    (λ o.
    rows_at Err c.number_of_sections s (optional_offset_of pe + c.size_of_optional_header) (Ok (header_of pe c o))))))
