-- The definitions on small inputs, by computation.
-- Assumes nothing.
use Rattle.std.specs.Prelude.{Ok, Err}
use mathlib.Core.Path.{◌≡◌, refl}
use mathlib.Core.List.{List, [], ◌∷◌, ◌++◌}
use mathlib.Core.Bool.{false}
use Prim.Native.Nat.{ℕ}
use lib.ListN.{replicate, take}
use Rattle.answer.specs.Answer.{refuse_of, short, limit, not_found, cut_of, beyond_of}
use Rattle.answer.specs.Test.{must}
use Rattle.fields.specs.Number.{number_at, bytes_of}
use Rattle.layout.specs.Layout.{read_by, size}
use Rattle.pe_section.specs.Section.{section_table_of, read_of, get_row_of}
use Rattle.pe_section.specs.declared.SectionTable.{SectionTable}

forty_bytes : size section_table_of ≡ 40
forty_bytes = refl

-- the row of a section ".text"
abbrev text : List ℕ
text =
    46 ∷ 116 ∷ 101 ∷ 120 ∷ 116 ∷ 0 ∷ 0 ∷ 0
    ∷ 42 ∷ 16 ∷ 0 ∷ 0
    ∷ 0 ∷ 16 ∷ 0 ∷ 0
    ∷ 0 ∷ 18 ∷ 0 ∷ 0
    ∷ 0 ∷ 4 ∷ 0 ∷ 0
    ∷ 1 ∷ 0 ∷ 0 ∷ 0
    ∷ 2 ∷ 0 ∷ 0 ∷ 0
    ∷ 3 ∷ 0
    ∷ 4 ∷ 1
    ∷ 32 ∷ 0 ∷ 0 ∷ 96
    ∷ []

abbrev header : SectionTable
header =
    record {
      name = 500236121134;
      virtual_size = 4138;
      virtual_address = 4096;
      size_of_raw_data = 4608;
      pointer_to_raw_data = 1024;
      pointer_to_relocations = 1;
      pointer_to_linenumbers = 2;
      number_of_relocations = 3;
      number_of_linenumbers = 260;
      characteristics = 1610612768;
    }

its_row : read_of text 0 ≡ Ok header
unfolding read_of read_by number_at
its_row = refl

its_name : bytes_of false 8 header.name ≡ take 8 text
unfolding bytes_of
its_name = refl

one_byte_missing : read_of (take 39 text) 0 ≡ Err (refuse_of short)
unfolding read_of read_by number_at cut_of
one_byte_missing = refl

second_of_two : get_row_of (replicate 41 7 ++ text) 1 2 1 ≡ Ok header
unfolding get_row_of must read_of read_by number_at
second_of_two = refl

index_at_the_count : get_row_of text 0 1 1 ≡ Err (refuse_of not_found)
unfolding get_row_of must
index_at_the_count = refl

table_past_the_file : get_row_of text 18446744073709551615 96 95 ≡ Err (refuse_of short)
unfolding get_row_of must read_of read_by cut_of beyond_of
table_past_the_file = refl

-- a count above the limit comes before an index past it and before the bytes
many_sections : get_row_of [] 0 97 97 ≡ Err (refuse_of limit)
unfolding get_row_of must
many_sections = refl
