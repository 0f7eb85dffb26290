-- What is proved of the numbers that C is handed, for every input.
-- Assumes nothing.
use Rattle.std.proofs.Common.{◌≡◌, ℕ, List, [], Result}
use Rattle.answer.specs.Answer.{answer_of, number, values}
use Rattle.answer.specs.declared.Refusal.{Refusal}
use Rattle.answer.proofs.Unique.{same, same_both}
use Rattle.fields.specs.Answers.{answer_write_bytes}
use Rattle.runtime_function.specs.Answers.{answer_read_runtime_function, count_read_runtime_function}
use Rattle.runtime_function.specs.declared.RuntimeFunction.{RuntimeFunction}

-- Two answers that meet a promise of this crate are equal, and so are the values that they store.
pub store_unique : {A : Type 0} (numbers : A → List ℕ) (n : ℕ) (a : Result A Refusal) {r q : ℕ} {l k : List ℕ}
    → (r ≡ number (answer_of numbers a)) × (l ≡ values n (answer_of numbers a))
    → (q ≡ number (answer_of numbers a)) × (k ≡ values n (answer_of numbers a)) → (r ≡ q) × (l ≡ k)
store_unique numbers n a = same_both

pub number_unique : (a : Result Unit Refusal) {r q : ℕ} → r ≡ number (answer_of (λ u. []) a) → q ≡ number (answer_of (λ u. []) a) → r ≡ q
number_unique a = same

-- the same at the answer of a writer, and at a runtime record
pub write_bytes_number_unique : (a : Result Unit Refusal) {r q : ℕ} → r ≡ number (answer_write_bytes a) → q ≡ number (answer_write_bytes a)
    → r ≡ q
write_bytes_number_unique a = same

pub read_runtime_function_number_unique : (a : Result RuntimeFunction Refusal) {r q : ℕ} → r ≡ number (answer_read_runtime_function a)
    → q ≡ number (answer_read_runtime_function a) → r ≡ q
read_runtime_function_number_unique a = same

pub read_runtime_function_values_unique : (a : Result RuntimeFunction Refusal) {r q : List ℕ}
    → r ≡ values count_read_runtime_function (answer_read_runtime_function a)
    → q ≡ values count_read_runtime_function (answer_read_runtime_function a) → r ≡ q
read_runtime_function_values_unique a = same
