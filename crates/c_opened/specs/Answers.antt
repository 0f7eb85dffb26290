-- What the answer of this crate stands for, and how many numbers that is.
-- Assumes nothing.
use Rattle.std.specs.Prelude.{Result, Ok, Err, ℕ}
use Rattle.answer.specs.Answer.{Answer, answer_of}
use Rattle.answer.specs.declared.Refusal.{Refusal}
use Rattle.exception_data.specs.Answers.{numbers_of}
use Rattle.exception_data.specs.declared.ExceptionData.{ExceptionData}

abbrev pub answer_read_opened : Result ExceptionData Refusal → Answer
answer_read_opened = answer_of numbers_of

abbrev pub count_read_opened : ℕ
count_read_opened = 6
