-- What is proved of the symbol version table, for every input.
-- Assumes nothing.
use Rattle.versym.specs.declared.Versym.{Versym}
use Rattle.std.specs.Prelude.{Result, Ok, Err, ℕ, List, ◌≡◌}
use Rattle.answer.specs.declared.Refusal.{Refusal}
use mathlib.Core.Path.{◌≡◌, refl, ap}
use mathlib.Core.List.{List, [], ◌∷◌}
use mathlib.Core.Bool.{Bool, not}
use mathlib.Core.Logic.{⊎_elim}
use Prim.Native.Nat.{ℕ, zero, suc, ◌+◌, ◌*◌, ◌/◌, ◌≤◌, ◌<◌}
use native.Mathlib.Nat.{not-suc-le-zero}
use native.Mathlib.Omega.{arith}
use lib.Dec.{T, ltb}
use lib.ListN.{length, take, drop}
use borrow.Author.Tests.{le-leb, lt-leb, lt-ltb, le-ltb, eq-eqb, ne_eqb}
use Rattle.answer.specs.Answer.{values, refuse_of, cut_of, limit, not_found}
use Rattle.answer.specs.Test.{pick, must, file_limit}
use Rattle.answer.proofs.Laws.{must_on, must_off}
use Rattle.answer.proofs.Unique.{same}
use Rattle.fields.specs.Number.{flip, number_at}
use Rattle.fields.proofs.Laws.{le_or_lt}
use Rattle.layout.specs.Layout.{placed, numbers_at}
use Rattle.layout.proofs.Laws.{full_is}
use Rattle.version_section.specs.declared.CountEntries.{CountEntries}
use Rattle.version_section.proofs.Laws.{section_past}
use Rattle.version_section.proofs.Order.{read_mirrored}
use Rattle.versym.specs.Versym.{fields, entry, versym_of, entries_in, count_in_of, get_at_in_of, count_of, get_at_of}
use Rattle.versym.specs.Answers.{answer_read_versym, count_read_versym, numbers_of}

-- Each field of the table is where the one before it ends.
pub fields_placed : T (placed 0 fields)
fields_placed = tt

-- The hidden bit and the version are all of an entry's number.
pub nothing_lost : (n : ℕ) → n < 0x10000 → pick (versym_of n).hidden 0x8000 0 + (versym_of n).version ≡ n
nothing_lost n h =
    ⊎_elim
    (λ (l : 0x8000 ≤ n). let e : n / 0x8000 ≡ 1 = omega arith in rw (eq-eqb (n / 0x8000) 1 e) (omega arith))
    (λ (l : n < 0x8000). rw (ne_eqb (n / 0x8000) 1 (λ e. omega arith)) (omega arith))
    (le_or_lt 0x8000 n)

-- A version has 15 bits: the hidden bit is not left in it.
pub version_small : (n : ℕ) → (versym_of n).version < 0x8000
version_small n = omega arith

-- Each entry below their number lies in the section, and is there.
pub entry_there : (big : Bool) (s : List ℕ) (index : ℕ) → index < entries_in s
    → (2 * index + 2 ≤ length s) × (Ok (versym_of (number_at big 2 s (2 * index))) ≡ get_at_in_of big s index)
unfolding get_at_in_of numbers_at
entry_there big s index h =
    let i : 2 * index + 2 ≤ length s = omega arith in
    (i, must_on _ _ _ _ (lt-ltb index (entries_in s) h) (full_is big s _ _ entry (2 * index) i refl))

-- At or after their number is 10.
pub entry_past : (big : Bool) (s : List ℕ) (index : ℕ) → entries_in s ≤ index → Err (refuse_of not_found) ≡ get_at_in_of big s index
unfolding get_at_in_of
entry_past big s index h = must_off _ _ _ _ (le-ltb index (entries_in s) h) refl

-- the bytes of each entry reversed; an odd last byte stays
abbrev pub swapped : List ℕ → List ℕ
swapped [] = []
swapped (a ∷ []) = a ∷ []
swapped (a ∷ b ∷ s) = b ∷ a ∷ swapped s

swapped_length : (s : List ℕ) → length (swapped s) ≡ length s
swapped_length [] = refl
swapped_length (a ∷ []) = refl
swapped_length (a ∷ b ∷ s) = ap (λ (n : ℕ). suc (suc n)) (swapped_length s)

swapped_at : (s : List ℕ) (i : ℕ) → 2 * i + 2 ≤ length s → take 2 (drop (2 * i) (swapped s)) ≡ flip (take 2 (drop (2 * i) s))
swapped_at [] i h = absurd (not-suc-le-zero (let z : 1 ≤ 0 = omega arith in z))
swapped_at (a ∷ []) i h = absurd (not-suc-le-zero (let z : 1 ≤ 0 = omega arith in z))
swapped_at (a ∷ b ∷ s) zero h = refl
swapped_at (a ∷ b ∷ s) (suc i) h = let e : 2 * suc i ≡ suc (suc (2 * i)) = omega arith in rw e (swapped_at s i (omega arith))

-- An entry in one order is that of the byte-swapped section in the other.
pub entry_swapped : (big : Bool) (s : List ℕ) (index : ℕ) → get_at_in_of (not big) (swapped s) index ≡ get_at_in_of big s index
unfolding get_at_in_of
entry_swapped big s index =
    rw (swapped_length s)
    (ap (λ (x : Result Versym Refusal). must Err (ltb index (length s / 2)) not_found x)
    (read_mirrored _ _ big entry s (swapped s) (2 * index) (swapped_length s) (omega arith) (λ h. (swapped_at s index h, tt))))

-- A file that is too long is 3, whatever the section.
pub count_long : (file : List ℕ) (start size : ℕ) → file_limit < length file → Err (refuse_of limit) ≡ count_of file start size
unfolding count_of
count_long file start size h = must_off _ _ _ _ (lt-leb (length file) file_limit h) refl

-- A section that reaches past the file is refused at its end.
pub count_past : (file : List ℕ) (start size : ℕ) → length file ≤ file_limit → length file < start + size
    → Err (cut_of (start + size)) ≡ count_of file start size
unfolding count_of
count_past file start size l h =
    must_on _ _ _ _ (le-leb (length file) file_limit l) (section_past file start size _ _ (lt-leb (start + size) (length file) h) refl)

-- Two answers that meet a promise of this crate are equal.
pub count_unique : (file : List ℕ) (start size : ℕ) {r q : Result CountEntries Refusal} → r ≡ count_of file start size → q ≡ count_of file start size → r ≡ q
count_unique file start size = same

pub get_at_unique : (file : List ℕ) (start size index : ℕ) (big : Bool) {r q : Result Versym Refusal} → r ≡ get_at_of big file start size index
    → q ≡ get_at_of big file start size index → r ≡ q
get_at_unique file start size index big = same

pub count_in_unique : (s : List ℕ) {r q : CountEntries} → r ≡ count_in_of s → q ≡ count_in_of s → r ≡ q
count_in_unique s = same

pub get_at_in_unique : (s : List ℕ) (index : ℕ) (big : Bool) {r q : Result Versym Refusal} → r ≡ get_at_in_of big s index → q ≡ get_at_in_of big s index
    → r ≡ q
get_at_in_unique s index big = same

-- The answer has as many numbers as it says, zeros where it is refused.
pub read_versym_count : (a : Result Versym Refusal) → length (values count_read_versym (answer_read_versym a)) ≡ count_read_versym
read_versym_count (Ok e) = refl
read_versym_count (Err k) = refl

-- The numbers that it stands for are fixed.
pub numbers_unique : (a : Versym) {r q : List ℕ} → r ≡ numbers_of a → q ≡ numbers_of a → r ≡ q
numbers_unique a = same
