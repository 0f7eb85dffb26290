-- What the answer of this crate stands for, and how many numbers that is.
-- Assumes nothing.
use Rattle.std.specs.Prelude.{Result, ℕ, [], ◌∷◌}
use Rattle.answer.specs.Answer.{Answer, answer_of}
use Rattle.answer.specs.declared.Refusal.{Refusal}

abbrev pub answer_open_fat : Result ℕ Refusal → Answer
answer_open_fat = answer_of (λ n. n ∷ [])

abbrev pub count_open_fat : ℕ
count_open_fat = 1
