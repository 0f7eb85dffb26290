-- The COFF header, 20 bytes, the least significant byte of each number first (Microsoft, "PE Format", COFF File Header (Object and
-- Image)).
-- Assumes nothing.
use Rattle.std.specs.Prelude.{Result, Ok, Err, ℕ, ◌+◌, List, [], ◌∷◌, ◌++◌, false, leb}
use Rattle.answer.specs.declared.Refusal.{Refusal}
use Rattle.answer.specs.Answer.{limit}
use Rattle.answer.specs.Test.{must}
use Rattle.layout.specs.Layout.{Field, field, widths, the, up_to, after, bytes_in, reading}
use Rattle.pe_section.specs.Section.{section_limit}
use Rattle.pe_coff.specs.declared.CoffHeader.{CoffHeader}

-- 4.13: offset, width, name
abbrev pub fields : List Field
fields =
    field 0 2 "Machine"
    ∷ field 2 2 "NumberOfSections"
    ∷ field 4 4 "TimeDateStamp"
    ∷ field 8 4 "PointerToSymbolTable"
    ∷ field 12 4 "NumberOfSymbols"
    ∷ field 16 2 "SizeOfOptionalHeader"
    ∷ field 18 2 "Characteristics"
    ∷ []

abbrev pub coff_header : List ℕ
coff_header = widths fields

-- 4.13: the numbers of the fields, as the header
abbrev pub header_of : List ℕ → CoffHeader
header_of ns =
    record {
      machine = the fields "Machine" ns;
      number_of_sections = the fields "NumberOfSections" ns;
      time_date_stamp = the fields "TimeDateStamp" ns;
      pointer_to_symbol_table = the fields "PointerToSymbolTable" ns;
      number_of_symbols = the fields "NumberOfSymbols" ns;
      size_of_optional_header = the fields "SizeOfOptionalHeader" ns;
      characteristics = the fields "Characteristics" ns;
    }

-- the header, as the numbers of its fields
abbrev pub numbers_of : CoffHeader → List ℕ
numbers_of h =
    h.machine
    ∷ h.number_of_sections
    ∷ h.time_date_stamp
    ∷ h.pointer_to_symbol_table
    ∷ h.number_of_symbols
    ∷ h.size_of_optional_header
    ∷ h.characteristics
    ∷ []

-- the fields up to the section count, and those after it
abbrev pub start : List Field
start = up_to "NumberOfSections" fields

abbrev pub rest : List Field
rest = after "NumberOfSections" fields

-- 3.6, 6.19: what reading the header at `at` answers: the header, or 1 at the first field that is not whole
unfoldable pub read_of : List ℕ → ℕ → Result CoffHeader Refusal
read_of s at =
    reading Err false start s at
    (λ ms.
    -- 6.5: a section count above 96 is 3, before the fields after it are read
    must Err (leb (the fields "NumberOfSections" ms) section_limit) limit
    (reading Err false rest s (at + bytes_in start) (λ ns. Ok (header_of (ms ++ ns)))))
