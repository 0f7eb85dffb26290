-- What is proved of mapping, for every input. That a function answers its definition is its contract (src/lib.rt).
-- Assumes nothing.
use Rattle.std.specs.Prelude.{Result, Ok, Err, ℕ}
use Rattle.answer.specs.declared.Refusal.{Refusal}
use mathlib.Core.Path.{◌≡◌, refl}
use mathlib.Core.List.{List}
use mathlib.Core.Bool.{true, false}
use mathlib.Core.Logic.{⊎_elim}
use Prim.Native.Nat.{ℕ, ◌+◌, ◌*◌, ◌≤◌, ◌<◌}
use native.Mathlib.Omega.{arith}
use lib.ListN.{length}
use Rattle.answer.specs.Answer.{refuse_of, limit, no_section, values}
use Rattle.answer.specs.Test.{file_limit}
use Rattle.answer.proofs.Unique.{same}
use Rattle.fields.proofs.Laws.{le_or_lt}
use Rattle.pe_section.specs.Section.{section_limit}
use Rattle.pe_section.specs.declared.SectionTable.{SectionTable}
use Rattle.pe_mapping.specs.Mapping.{power_of_two, readable_size, offset_in, first_of, find_offset_of}
use Rattle.pe_mapping.specs.Answers.{answer_find_offset, count_find_offset}
use Rattle.pe_mapping.specs.declared.Sections.{Sections}
use Rattle.pe_mapping.proofs.Laws.{holds_told, offset_long, offset_many, offset_unaligned, offset_first}
use Rattle.pe_mapping.proofs.Winner.{Passed, Wins, Mapping, mapping_of, must_told, first_of_lem, none_of, by_alignment}

-- What is mapped is mapped by the first section in table order that holds the address.
pub mapped_by_first : (s : List ℕ) (x : Sections) (address o : ℕ) → Ok o ≡ find_offset_of s x address
    → Mapping s x.table x.count x.alignment address o
unfolding find_offset_of
mapped_by_first s x address o e =
    mapping_of x.count s x.table x.alignment address o (must_told _ _ _ (must_told _ _ _ (must_told _ _ _ e)))

-- The first section in table order that holds the address maps it.
pub first_wins : (s : List ℕ) (x : Sections) (address index : ℕ) (h : SectionTable) → length s ≤ file_limit → x.count ≤ section_limit
    → power_of_two x.alignment ≡ true → Wins s x.table x.count x.alignment address index h
    → Ok (offset_in h address) ≡ find_offset_of s x address
first_wins s x address index h l m p w =
    offset_first s x address l m p (first_of_lem index x.count s x.table x.alignment address h w)

-- What is mapped lies below the readable end of its section.
pub mapped_below : (s : List ℕ) (table count alignment address o : ℕ) (m : Mapping s table count alignment address o)
    → (m.row.pointer_to_raw_data ≤ o) × (o < m.row.pointer_to_raw_data + readable_size alignment m.row)
mapped_below s table count alignment address o m =
    let t = holds_told alignment m.row address m.wins.held in
    (omega (arith, m.value), omega (arith, m.value, t.from, t.below))

-- An address that no section holds, where every row is whole, is 5.
pub no_section_lem : (s : List ℕ) (x : Sections) (address : ℕ) → length s ≤ file_limit → x.count ≤ section_limit
    → ((j : ℕ) → j < x.count → Passed s (x.table + 40 * j) x.alignment address)
    → Err (refuse_of no_section) ≡ find_offset_of s x address
no_section_lem s x address l m f =
    by_alignment s x address (power_of_two x.alignment) refl l m (none_of x.count s x.table x.alignment address f)

-- An alignment that is no power of two maps nothing, 5, whatever the rows.
pub unaligned : (s : List ℕ) (x : Sections) (address : ℕ) → length s ≤ file_limit → x.count ≤ section_limit
    → power_of_two x.alignment ≡ false → Err (refuse_of no_section) ≡ find_offset_of s x address
unaligned s x address l m p = offset_unaligned s x address l m p refl

-- 96 sections are searched ..
pub ninety_six : (s : List ℕ) (x : Sections) (address : ℕ) → length s ≤ file_limit → x.count ≡ 96 → power_of_two x.alignment ≡ true
    → first_of 96 s x.table x.alignment address ≡ find_offset_of s x address
ninety_six s x address l n p =
    let e : first_of 96 s x.table x.alignment address ≡ first_of x.count s x.table x.alignment address = rw n in
    offset_first s x address l (omega (arith, n)) p e

-- .. and 97 are 3, whatever the file, the alignment and the address.
pub ninety_seven : (s : List ℕ) (x : Sections) (address : ℕ) → x.count ≡ 97 → Err (refuse_of limit) ≡ find_offset_of s x address
ninety_seven s x address n =
    ⊎_elim
    (λ l. offset_many s x address l (omega (arith, n)) refl)
    (λ l. offset_long s x address l refl)
    (le_or_lt (length s) file_limit)

-- Two answers that meet the promise of this crate are equal.
pub find_offset_unique : (s : List ℕ) (sections : Sections) (address : ℕ) {r q : Result ℕ Refusal} → r ≡ find_offset_of s sections address
    → q ≡ find_offset_of s sections address → r ≡ q
find_offset_unique s sections address = same

-- The answer has as many numbers as it says, zeros where it is refused.
pub find_offset_count : (a : Result ℕ Refusal) → length (values count_find_offset (answer_find_offset a)) ≡ count_find_offset
find_offset_count (Ok offset) = refl
find_offset_count (Err k) = refl
