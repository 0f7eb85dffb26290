-- What the answer of this crate stands for, and how many numbers that is.
-- Assumes nothing.
use Rattle.std.specs.Prelude.{Result, ℕ, []}
use Rattle.answer.specs.Answer.{Answer, answer_of}
use Rattle.answer.specs.declared.Refusal.{Refusal}

abbrev pub answer_check_table : Result Unit Refusal → Answer
answer_check_table = answer_of (λ u. [])

abbrev pub count_check_table : ℕ
count_check_table = 0
