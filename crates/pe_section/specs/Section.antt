-- A row of the section table, 40 bytes, the least significant byte of each number first (Microsoft, "PE Format", Section Table (Section
-- Headers)); and the row at an index of a table.
-- Assumes nothing.
use Rattle.std.specs.Prelude.{Result, Ok, Err, ℕ, ◌+◌, ◌*◌, List, [], ◌∷◌, false, leb, ltb}
use Rattle.answer.specs.declared.Refusal.{Refusal}
use Rattle.answer.specs.Answer.{limit, not_found}
use Rattle.answer.specs.Test.{must, in_limit}
use Rattle.fields.specs.Number.{bytes_of}
use Rattle.layout.specs.Layout.{Field, field, widths, the, reading}
use Rattle.pe_section.specs.declared.SectionTable.{SectionTable}

-- 4.15: offset, width, name
abbrev pub fields : List Field
fields =
    field 0 8 "Name"
    ∷ field 8 4 "VirtualSize"
    ∷ field 12 4 "VirtualAddress"
    ∷ field 16 4 "SizeOfRawData"
    ∷ field 20 4 "PointerToRawData"
    ∷ field 24 4 "PointerToRelocations"
    ∷ field 28 4 "PointerToLinenumbers"
    ∷ field 32 2 "NumberOfRelocations"
    ∷ field 34 2 "NumberOfLinenumbers"
    ∷ field 36 4 "Characteristics"
    ∷ []

abbrev pub section_table_of : List ℕ
section_table_of = widths fields

-- the numbers of the fields, as the row; 7.2: the name is the number that its eight bytes write
abbrev pub row_of : List ℕ → SectionTable
row_of ns =
    record {
      name = the fields "Name" ns;
      virtual_size = the fields "VirtualSize" ns;
      virtual_address = the fields "VirtualAddress" ns;
      size_of_raw_data = the fields "SizeOfRawData" ns;
      pointer_to_raw_data = the fields "PointerToRawData" ns;
      pointer_to_relocations = the fields "PointerToRelocations" ns;
      pointer_to_linenumbers = the fields "PointerToLinenumbers" ns;
      number_of_relocations = the fields "NumberOfRelocations" ns;
      number_of_linenumbers = the fields "NumberOfLinenumbers" ns;
      characteristics = the fields "Characteristics" ns;
    }

-- the row, as the numbers of its fields
abbrev pub numbers_of : SectionTable → List ℕ
numbers_of r =
    r.name
    ∷ r.virtual_size
    ∷ r.virtual_address
    ∷ r.size_of_raw_data
    ∷ r.pointer_to_raw_data
    ∷ r.pointer_to_relocations
    ∷ r.pointer_to_linenumbers
    ∷ r.number_of_relocations
    ∷ r.number_of_linenumbers
    ∷ r.characteristics
    ∷ []

-- 3.6, 7.14: what reading the row at `at` answers: the row, or 1 at the first field that is not whole
unfoldable pub read_of : List ℕ → ℕ → Result SectionTable Refusal
read_of s at = reading Err false fields s at (λ ns. Ok (row_of ns))

-- 7.2: the eight bytes of a row's name, in file order
abbrev pub name_bytes_of : SectionTable → List ℕ
name_bytes_of h = bytes_of false 8 h.name

-- 1.2: an image has at most 96 sections
abbrev pub section_limit : ℕ
section_limit = 96

-- 7.3: the row at an index of the table that starts at `table` and has `count` rows
unfoldable pub get_row_of : List ℕ → ℕ → ℕ → ℕ → Result SectionTable Refusal
get_row_of s table count index =
    -- 3.1: the file's length comes first
    in_limit Err s
    -- 1.2: a count above 96 is 3
    (must Err (leb count section_limit) limit
    -- 3.8: an index at or after the count is 10, before its row is read
    (must Err (ltb index count) not_found
    -- 7.1: rows follow each other, 40 bytes each
    (read_of s (table + 40 * index))))
