-- The definitions on small images, by computation.
-- Assumes nothing.
use Rattle.std.specs.Prelude.{Result, Ok, Err}
use Rattle.answer.specs.declared.Refusal.{Refusal}
use mathlib.Core.Path.{◌≡◌, refl}
use mathlib.Core.List.{List, [], ◌∷◌, ◌++◌}
use mathlib.Core.Bool.{false}
use Prim.Native.Nat.{ℕ}
use lib.ListN.{take, replicate}
use Rattle.answer.specs.Answer.{refuse_of, short, contradiction, no_section, order, not_found, machine, cut_of}
use Rattle.answer.specs.Test.{must}
use Rattle.fields.specs.Number.{number_at, bytes_of}
use Rattle.fields.specs.Field.{read_of as field_of}
use Rattle.layout.specs.Layout.{read_by, numbers_at, write_by}
use Rattle.runtime_function.specs.RuntimeFunction.{runtime_function, read_of as found_at}
use Rattle.pe_dos.specs.Dos.{read_of as dos_at}
use Rattle.pe_coff.specs.Coff.{read_of as coff_at}
use Rattle.pe_optional.specs.Optional.{needed, fields_at, read_of as optional_at}
use Rattle.pe_section.specs.Section.{read_of as row_at}
use Rattle.pe_header.specs.Header.{pointer_in, coff_in, rows_at, open_of as open_header_of}
use Rattle.pe_mapping.specs.Mapping.{up, power_below, readable_size, holds, first_of, find_offset_of}
use Rattle.runtime_table.specs.Table.{table_of, get_entry_of, lies_of, each, ordered}
use Rattle.runtime_table.specs.Check.{check_of}
use Rattle.exception_data.specs.Exception.{open_of, get_function_of}
use Rattle.exception_data.specs.declared.RecordForm.TheVariants.{X64}
use Rattle.exception_data.specs.declared.ExceptionData.{ExceptionData}

-- 64 bytes of DOS header, the signature and the COFF header: an image for the machine `m`, with one section
abbrev front : ℕ → List ℕ
front m =
    (77 ∷ 90 ∷ [])
    ++ replicate 58 0
    ++ (64 ∷ 0 ∷ 0 ∷ 0 ∷ 80 ∷ 69 ∷ 0 ∷ 0 ∷ [])
    ++ bytes_of false 2 m
    ++ (1 ∷ 0 ∷ [])
    ++ replicate 12 0
    ++ (144 ∷ 0 ∷ 0 ∷ 0 ∷ [])

-- a PE32+ optional header that states `n` directories, the exception directory among them: 144 bytes
abbrev optional : ℕ → ℕ → ℕ → List ℕ
optional n address size =
    (11 ∷ 2 ∷ [])
    ++ replicate 34 0
    ++ (0 ∷ 2 ∷ 0 ∷ 0 ∷ [])
    ++ replicate 68 0
    ++ bytes_of false 4 n
    ++ replicate 24 0
    ++ bytes_of false 4 address
    ++ bytes_of false 4 size

-- the section at 4,096, with 24 bytes at the end of the image, which is 272 bytes long before them
abbrev row : List ℕ
row = replicate 12 0 ++ bytes_of false 4 4096 ++ bytes_of false 4 24 ++ bytes_of false 4 272 ++ replicate 16 0

-- two records: from 16 to `end`, and from 32 to 48
abbrev records : ℕ → List ℕ
records end =
    write_by false runtime_function (16 ∷ end ∷ 8192 ∷ []) ++ write_by false runtime_function (32 ∷ 48 ∷ 8192 ∷ [])

abbrev image : ℕ → ℕ → ℕ → ℕ → ℕ → List ℕ
image m n address size end = front m ++ optional n address size ++ row ++ records end

-- a table of `count` records at `table` of such an image
abbrev opened : ℕ → ℕ → ExceptionData
opened table count = record { form = X64; table = table; count = count; sections = record { table = 232; count = 1; alignment = 512 } }

-- what opening answers, and what it is to answer
abbrev openings : List (Result ExceptionData Refusal × Result ExceptionData Refusal)
openings =
    (open_of (image 0x8664 4 4096 24 32), Ok (opened 272 2))
    -- a directory of size 0 at an address that maps is a table of no records, also where it maps past the file
    ∷ (open_of (image 0x8664 4 4096 0 32), Ok (opened 272 0))
    ∷ (open_of (image 0x8664 4 4396 0 32), Ok (opened 572 0))
    -- a section row that is not whole is 1, before another machine is 15
    ∷ (open_of (take 271 (image 0xAA64 4 4096 24 32)), Err (refuse_of short))
    -- another machine is 15, before too few directories are 10
    ∷ (open_of (image 0xAA64 3 4096 24 32), Err (refuse_of machine))
    -- three directories; and an address and a size that are both 0, before the size is looked at
    ∷ (open_of (image 0x8664 3 4096 24 32), Err (refuse_of not_found))
    ∷ (open_of (image 0x8664 4 0 0 32), Err (refuse_of not_found))
    -- a size that is no multiple of 12 is 4, before an address in no section is 5
    ∷ (open_of (image 0x8664 4 16 13 32), Err (refuse_of contradiction))
    -- an address of 0 is an address like any other where the size is not 0
    ∷ (open_of (image 0x8664 4 0 24 32), Err (refuse_of no_section))
    -- the file offset, 274, is no multiple of 4
    ∷ (open_of (image 0x8664 4 4098 12 32), Err (refuse_of no_section))
    -- a table that reaches past the file is 1, before records that share an address are 9
    ∷ (open_of (image 0x8664 4 4096 36 33), Err (refuse_of short))
    ∷ (open_of (image 0x8664 4 4096 24 33), Err (refuse_of order))
    ∷ []

abbrev firsts : {A B : Type 0} → List (A × B) → List A
firsts [] = []
firsts (p ∷ ps) = p.0 ∷ firsts ps

abbrev seconds : {A B : Type 0} → List (A × B) → List B
seconds [] = []
seconds (p ∷ ps) = p.1 ∷ seconds ps

all_open_so : firsts openings ≡ seconds openings
unfolding open_of must open_header_of pointer_in dos_at coff_in coff_at optional_at fields_at needed rows_at row_at field_of read_by numbers_at number_at
    bytes_of write_by find_offset_of power_below first_of holds readable_size up check_of lies_of ordered each table_of cut_of
all_open_so = refl

-- the record at an index of the two
second : get_function_of (records 32) (opened 0 2) 1 ≡ Ok (record { begin = 32; end = 48; unwind = 8192 })
unfolding get_function_of must get_entry_of found_at read_by number_at write_by bytes_of
second = refl

index_at_the_count : get_function_of (records 32) (opened 0 1) 1 ≡ Err (refuse_of not_found)
unfolding get_function_of must write_by bytes_of
index_at_the_count = refl

third_of_four : get_function_of (records 32) (opened 0 4) 2 ≡ Err (refuse_of short)
unfolding get_function_of must get_entry_of found_at read_by write_by bytes_of cut_of
third_of_four = refl
