-- The definitions on small inputs, by computation.
-- Assumes nothing.
use Rattle.std.specs.Prelude.{Ok, Err}
use mathlib.Core.Path.{◌≡◌, refl}
use mathlib.Core.List.{List, [], ◌∷◌, ◌++◌}
use mathlib.Core.Bool.{true, false}
use Prim.Native.Nat.{ℕ}
use Rattle.answer.specs.Answer.{refuse_of, short, limit, no_section, cut_of}
use Rattle.answer.specs.Test.{must}
use Rattle.fields.specs.Number.{number_at, bytes_of}
use Rattle.layout.specs.Layout.{read_by, write_by}
use Rattle.pe_section.specs.Section.{section_table_of, row_of, read_of}
use Rattle.pe_section.specs.declared.SectionTable.{SectionTable}
use Rattle.pe_mapping.specs.Mapping.{up, power_below, power_of_two, readable_size, holds, first_of, find_offset_of}
use Rattle.pe_mapping.specs.declared.Sections.{Sections}

-- 0 and 513 are no powers of two; 1 and 2 ^ 31 are
alignment_zero : power_of_two 0 ≡ false
unfolding power_below
alignment_zero = refl

alignment_one : power_of_two 1 ≡ true
unfolding power_below
alignment_one = refl

alignment_513 : power_of_two 513 ≡ false
unfolding power_below
alignment_513 = refl

alignment_largest : power_of_two 0x80000000 ≡ true
unfolding power_below
alignment_largest = refl

-- virtual size, virtual address, raw size and raw pointer of a section, the rest zero
abbrev section : ℕ → ℕ → ℕ → ℕ → SectionTable
section size address raw pointer = row_of (0 ∷ size ∷ address ∷ raw ∷ pointer ∷ [])

-- the end rounded up to the alignment, less the pointer rounded down to 512
readable_by_file : readable_size 512 (section 0 4096 512 1040) ≡ 1024
unfolding readable_size up
readable_by_file = refl

-- at most the raw size rounded up to 4,096
readable_by_raw_size : readable_size 65536 (section 0 4096 512 1040) ≡ 4096
unfolding readable_size up
readable_by_raw_size = refl

-- at most the virtual size rounded up to 4,096
readable_by_virtual_size : readable_size 512 (section 1 4096 8192 1024) ≡ 4096
unfolding readable_size up
readable_by_virtual_size = refl

-- a section that the file has nothing of
readable_by_no_raw_size : readable_size 512 (section 4096 4096 0 1024) ≡ 0
unfolding readable_size up
readable_by_no_raw_size = refl

-- a table at the start of the file
abbrev rows : ℕ → ℕ → Sections
rows count alignment = record { table = 0; count = count; alignment = alignment }

-- the row of a section
abbrev row : ℕ → ℕ → ℕ → ℕ → List ℕ
row size address raw pointer = write_by false section_table_of (0 ∷ size ∷ address ∷ raw ∷ pointer ∷ [])

-- the raw pointer is not rounded in the result
first_byte : find_offset_of (row 0 4096 512 1040) (rows 1 512) 4096 ≡ Ok 1040
unfolding find_offset_of must power_below first_of read_of read_by number_at write_by bytes_of holds readable_size up
first_byte = refl

last_byte : find_offset_of (row 0 4096 512 1040) (rows 1 512) 5119 ≡ Ok 2063
unfolding find_offset_of must power_below first_of read_of read_by number_at write_by bytes_of holds readable_size up
last_byte = refl

end_of_the_section : find_offset_of (row 0 4096 512 1040) (rows 1 512) 5120 ≡ Err (refuse_of no_section)
unfolding find_offset_of must power_below first_of read_of read_by number_at write_by bytes_of holds readable_size up
end_of_the_section = refl

-- two sections that hold one address
first_of_two : find_offset_of (row 0 4096 512 1024 ++ row 0 4096 512 2048) (rows 2 512) 4097 ≡ Ok 1025
unfolding find_offset_of must power_below first_of read_of read_by number_at write_by bytes_of holds readable_size up
first_of_two = refl

-- a match in an earlier row wins without looking further
second_row_missing : find_offset_of (row 0 4096 512 1024) (rows 2 512) 4097 ≡ Ok 1025
unfolding find_offset_of must power_below first_of read_of read_by number_at write_by bytes_of holds readable_size up
second_row_missing = refl

second_row_needed : find_offset_of (row 0 4096 512 1024) (rows 2 512) 8192 ≡ Err (refuse_of short)
unfolding find_offset_of must power_below first_of read_of read_by number_at write_by bytes_of holds readable_size up cut_of
second_row_needed = refl

-- all sums are in 64 bits
past_32_bits : find_offset_of (row 0 4096 4096 4294967295) (rows 1 512) 8191 ≡ Ok 4294971390
unfolding find_offset_of must power_below first_of read_of read_by number_at write_by bytes_of holds readable_size up
past_32_bits = refl

-- the limit comes before the alignment, and the alignment before the rows
limit_first : find_offset_of [] (rows 97 0) 0 ≡ Err (refuse_of limit)
unfolding find_offset_of must
limit_first = refl

alignment_next : find_offset_of [] (rows 1 3) 0 ≡ Err (refuse_of no_section)
unfolding find_offset_of must power_below
alignment_next = refl
