-- What is proved of the section table as a C caller states it, for every input.
-- Assumes nothing.
use mathlib.Core.Path.{◌≡◌}
use mathlib.Core.List.{List}
use Prim.Native.Nat.{ℕ}
use Rattle.answer.proofs.Unique.{same}
use Rattle.pe_mapping.specs.declared.Sections.{Sections}
use Rattle.c_sections.specs.Sections.{small_of, read_sections_of}

-- Two answers that meet a promise of this crate are equal.
pub read_sections_unique : (numbers : List ℕ) {r q : Sections} → r ≡ read_sections_of numbers → q ≡ read_sections_of numbers → r ≡ q
read_sections_unique numbers = same

pub small_unique : (n : ℕ) {r q : ℕ} → r ≡ small_of n → q ≡ small_of n → r ≡ q
small_unique n = same
