-- What the answer of this crate stands for, and how many numbers that is.
-- Assumes nothing.
use Rattle.std.specs.Prelude.{Result, ℕ}
use Rattle.answer.specs.Answer.{Answer, answer_of}
use Rattle.answer.specs.declared.Refusal.{Refusal}
use Rattle.runtime_function.specs.RuntimeFunction.{numbers_of}
use Rattle.runtime_function.specs.declared.RuntimeFunction.{RuntimeFunction}

abbrev pub answer_read_runtime_function : Result RuntimeFunction Refusal → Answer
answer_read_runtime_function = answer_of numbers_of

abbrev pub count_read_runtime_function : ℕ
count_read_runtime_function = 3
