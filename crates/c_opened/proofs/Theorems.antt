-- What is proved of opened exception data as a C caller states it, for every input.
-- Assumes nothing.
use Rattle.exception_data.specs.declared.ExceptionData.{ExceptionData}
use Rattle.std.specs.Prelude.{Result, Ok, Err}
use Rattle.answer.specs.declared.Refusal.{Refusal}
use mathlib.Core.Path.{◌≡◌, refl}
use mathlib.Core.List.{List}
use Prim.Native.Nat.{ℕ}
use lib.ListN.{length}
use Rattle.answer.specs.Answer.{values}
use Rattle.answer.proofs.Unique.{same}
use Rattle.c_opened.specs.Opened.{read_opened_of}
use Rattle.c_opened.specs.Answers.{answer_read_opened, count_read_opened}

-- Two answers that meet the promise of this crate are equal.
pub read_opened_unique : (numbers : List ℕ) {r q : Result ExceptionData Refusal} → r ≡ read_opened_of numbers → q ≡ read_opened_of numbers → r ≡ q
read_opened_unique numbers = same

-- The answer has as many numbers as it says, zeros where it is refused.
pub read_opened_count : (a : Result ExceptionData Refusal) → length (values count_read_opened (answer_read_opened a)) ≡ count_read_opened
read_opened_count (Ok opened) = refl
read_opened_count (Err k) = refl
