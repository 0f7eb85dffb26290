-- What is proved of a runtime record, for every input.
-- Assumes nothing.
use Rattle.std.specs.Prelude.{Result, Ok, Err, ℕ, List, ◌≡◌}
use Rattle.answer.specs.declared.Refusal.{Refusal}
use mathlib.Core.Path.{◌≡◌, refl}
use mathlib.Core.List.{List, [], ◌++◌}
use mathlib.Core.Bool.{false}
use Prim.Native.Nat.{ℕ}
use native.Mathlib.Omega.{arith}
use lib.Dec.{T}
use lib.ListN.{length, take, drop}
use Rattle.answer.specs.Answer.{cut_of, values}
use Rattle.answer.proofs.Unique.{same, same_both}
use Rattle.fields.specs.Number.{Bytes}
use Rattle.fields.specs.Field.{write_of}
use Rattle.layout.specs.Layout.{placed, numbers_at, write_by, Fits}
use Rattle.layout.proofs.Theorems.{read_written, written_again}
use Rattle.runtime_function.specs.RuntimeFunction.{fields, runtime_function, record_of, numbers_of, read_of, write_out}
use Rattle.runtime_function.specs.Answers.{answer_read_runtime_function, count_read_runtime_function}
use Rattle.runtime_function.specs.declared.RuntimeFunction.{RuntimeFunction}

-- Each field is where the one before it ends.
pub fields_placed : T (placed 0 fields)
fields_placed = tt

-- A record that was written is read again, whatever precedes and follows it.
pub found_written : (e : RuntimeFunction) (p q : List ℕ) → Fits runtime_function (numbers_of e)
    → read_of (p ++ write_by false runtime_function (numbers_of e) ++ q) (length p) ≡ Ok e
unfolding read_of
found_written e p q h = read_written _ _ false runtime_function (numbers_of e) p q h

never : {e : RuntimeFunction} {k : Refusal} → Ok e ≡ Err k → ⊥
never e = let z : ◌≡◌ {A = ℕ} 0 1 = cc in omega arith

abbrev back : Result RuntimeFunction Refusal → List ℕ
back (Ok e) = numbers_of e
back (Err k) = []

-- Bytes that were read as a record are written again.
pub written_found : (s : List ℕ) (at : ℕ) (e : RuntimeFunction) → Bytes s → Ok e ≡ read_of s at
    → write_by false runtime_function (numbers_of e) ≡ take 12 (drop at s)
unfolding read_of numbers_at
written_found s at e b h = written_again (λ ns. Ok (record_of ns)) (λ n. Err (cut_of n)) back false runtime_function s at b
    (λ n k. never k) refl h

-- Two answers that meet a promise of this crate are equal.
pub read_unique : (s : List ℕ) (at : ℕ) {r q : Result RuntimeFunction Refusal} → r ≡ read_of s at → q ≡ read_of s at → r ≡ q
read_unique s at = same

pub write_unique : (o : List ℕ) (at : ℕ) (e : RuntimeFunction) {r q : Result Unit Refusal} {l k : List ℕ}
    → (r ≡ write_of 12 o at) × (l ≡ write_out o at e) → (q ≡ write_of 12 o at) × (k ≡ write_out o at e) → (r ≡ q) × (l ≡ k)
write_unique o at e = same_both

-- The answer has as many numbers as it says, zeros where it is refused.
pub read_count : (a : Result RuntimeFunction Refusal)
    → length (values count_read_runtime_function (answer_read_runtime_function a)) ≡ count_read_runtime_function
read_count (Ok e) = refl
read_count (Err k) = refl

-- The numbers that it stands for are fixed.
pub numbers_unique : (a : RuntimeFunction) {r q : List ℕ} → r ≡ numbers_of a → q ≡ numbers_of a → r ≡ q
numbers_unique a = same
