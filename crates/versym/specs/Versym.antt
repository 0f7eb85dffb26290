-- The symbol version table: an entry of 16 bits for each symbol, in the order of the symbols (LSB Core 5.0, "Symbol Version Table").
-- Assumes nothing.
use Rattle.std.specs.Prelude.{Result, Ok, Err, ℕ, ◌*◌, ◌/◌, ◌%◌, List, [], ◌∷◌, Bool, length, ltb, eqb}
use Rattle.answer.specs.declared.Refusal.{Refusal}
use Rattle.answer.specs.Answer.{not_found}
use Rattle.answer.specs.Test.{pick, must, in_limit}
use Rattle.layout.specs.Layout.{Field, field, widths, the, size, reading}
use Rattle.version_section.specs.Section.{section_of, in_file}
use Rattle.version_section.specs.declared.CountEntries.{CountEntries}
use Rattle.version_section.specs.declared.CountEntries.TheVariants as counted
use Rattle.versym.specs.declared.Versym.{Versym}

-- 4.20: offset, width, name
abbrev pub fields : List Field
fields = field 0 2 "vs_val" ∷ []

abbrev pub entry : List ℕ
entry = widths fields

-- 14.3: the highest of the 16 bits is the hidden bit, the 15 below it are the version
abbrev pub versym_of : ℕ → Versym
versym_of n = record { hidden = eqb (n / 0x8000) 1; version = n % 0x8000 }

-- 14.4: how many entries a section's bytes have; an odd last byte is none
abbrev pub entries_in : List ℕ → ℕ
entries_in s = length s / size entry

-- 14.4, 14.6: how many there are, with 1 where there is an odd last byte
unfoldable pub count_in_of : List ℕ → CountEntries
count_in_of s = pick (eqb (length s % size entry) 0) (counted.Whole (entries_in s)) (counted.Cut (entries_in s))

-- 14.3, 14.5, 14.6: the entry at `index`, or 10 at or after their number
unfoldable pub get_at_in_of : Bool → List ℕ → ℕ → Result Versym Refusal
get_at_in_of big s index =
    must Err (ltb index (entries_in s)) not_found
    (reading Err big fields s (size entry * index) (λ ns. Ok (versym_of (the fields "vs_val" ns))))

-- 14.2, 14.4: of a file: its length (3), then the section (1), then its entries
unfoldable pub count_of : List ℕ → ℕ → ℕ → Result CountEntries Refusal
count_of file start size = in_limit Err file (in_file Err file start size (Ok (count_in_of (section_of file start size))))

-- 14.2, 14.5: the same, then the entry at `index` (10)
unfoldable pub get_at_of : Bool → List ℕ → ℕ → ℕ → ℕ → Result Versym Refusal
get_at_of big file start size index =
    in_limit Err file (in_file Err file start size (get_at_in_of big (section_of file start size) index))
