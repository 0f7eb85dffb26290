-- What each answer of this crate stands for, and how many numbers that is.
-- Assumes nothing.
use Rattle.std.specs.Prelude.{ℕ, [], ◌∷◌, Result}
use Rattle.answer.specs.Answer.{Answer, answer_of}
use Rattle.answer.specs.declared.Refusal.{Refusal}

-- of reading a number, at any width
abbrev pub answer_read : Result ℕ Refusal → Answer
answer_read = answer_of (λ n. n ∷ [])

abbrev pub count_read : ℕ
count_read = 1

-- of writing bytes
abbrev pub answer_write_bytes : Result Unit Refusal → Answer
answer_write_bytes = answer_of (λ u. [])

abbrev pub count_write_bytes : ℕ
count_write_bytes = 0
