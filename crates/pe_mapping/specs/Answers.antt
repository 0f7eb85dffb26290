-- What the answer of this crate stands for, and how many numbers that is.
-- Assumes nothing.
use Rattle.std.specs.Prelude.{Result, ℕ, [], ◌∷◌}
use Rattle.answer.specs.Answer.{Answer, answer_of}
use Rattle.answer.specs.declared.Refusal.{Refusal}

abbrev pub answer_find_offset : Result ℕ Refusal → Answer
answer_find_offset = answer_of (λ offset. offset ∷ [])

abbrev pub count_find_offset : ℕ
count_find_offset = 1
