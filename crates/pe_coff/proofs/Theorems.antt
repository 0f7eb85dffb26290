-- What is proved of the COFF header, for every input. That `read` answers its definition is its contract (src/lib.rt).
-- Assumes nothing.
use Rattle.std.specs.Prelude.{Result, Ok, Err, ℕ, List, ◌≡◌}
use Rattle.answer.specs.declared.Refusal.{Refusal}
use mathlib.Core.Path.{◌≡◌, refl}
use mathlib.Core.List.{List}
use mathlib.Core.Bool.{false}
use Prim.Native.Nat.{ℕ, ◌+◌, ◌≤◌}
use native.Mathlib.Omega.{arith}
use lib.Dec.{T}
use lib.ListN.{length}
use Rattle.answer.specs.Answer.{refuse_of, limit, values}
use Rattle.answer.proofs.Unique.{same}
use Rattle.fields.specs.Number.{number_at}
use Rattle.layout.specs.Layout.{placed, numbers_at}
use Rattle.pe_coff.specs.Coff.{fields, coff_header, header_of, read_of, numbers_of}
use Rattle.pe_coff.specs.Answers.{answer_read_coff_header, count_read_coff_header}
use Rattle.pe_coff.specs.declared.CoffHeader.{CoffHeader}
use Rattle.pe_coff.proofs.Laws.{Whole, coff_whole, coff_full, coff_many}

-- Each field of the table is where the one before it ends.
pub fields_placed : T (placed 0 fields)
fields_placed = tt

-- A header that is read lies wholly in the bytes, is theirs, and has at most 96 sections.
pub read_whole : (s : List ℕ) (at : ℕ) (h : CoffHeader) → Ok h ≡ read_of s at → Whole s at h
read_whole s at h e = coff_whole s at e refl

-- A header with 96 sections is accepted, ..
pub ninety_six : (s : List ℕ) (at : ℕ) → at + 20 ≤ length s → number_at false 2 s (at + 2) ≡ 96
    → Ok (header_of (numbers_at false coff_header s at)) ≡ read_of s at
ninety_six s at h e = coff_full s at h (omega arith)

-- .. and one with 97 is 3, whatever follows the count.
pub ninety_seven : (s : List ℕ) (at : ℕ) → at + 4 ≤ length s → number_at false 2 s (at + 2) ≡ 97 → Err (refuse_of limit) ≡ read_of s at
ninety_seven s at h e = coff_many s at h refl (omega arith) refl

-- Two answers that meet the promise of this crate are equal.
pub read_unique : (s : List ℕ) (at : ℕ) {r q : Result CoffHeader Refusal} → r ≡ read_of s at → q ≡ read_of s at → r ≡ q
read_unique s at = same

-- The answer has as many numbers as it says, zeros where it is refused.
pub read_count : (a : Result CoffHeader Refusal) → length (values count_read_coff_header (answer_read_coff_header a)) ≡ count_read_coff_header
read_count (Ok h) = refl
read_count (Err k) = refl

-- The numbers that it stands for are fixed.
pub numbers_unique : (a : CoffHeader) {r q : List ℕ} → r ≡ numbers_of a → q ≡ numbers_of a → r ≡ q
numbers_unique a = same
