-- What each answer of this crate stands for, and how many numbers that is. The registers of a step are beside its answer, in the state that
-- was lent.
-- Assumes nothing.
use Rattle.std.specs.Prelude.{Result, Option, Some, None, ℕ, [], ◌∷◌}
use Rattle.answer.specs.Answer.{Answer, accepted, answer_of}
use Rattle.answer.specs.declared.Refusal.{Refusal}

-- 16.1: no number
abbrev pub answer_step_answer : Result Unit Refusal → Answer
answer_step_answer = answer_of (λ u. [])

abbrev pub count_step_answer : ℕ
count_step_answer = 0

-- 16.9: 1 and the address; 0 and 0 outside
abbrev pub answer_relative_address : Option ℕ → Answer
answer_relative_address (Some a) = accepted (1 ∷ a ∷ [])
answer_relative_address None = accepted (0 ∷ 0 ∷ [])

abbrev pub count_relative_address : ℕ
count_relative_address = 2
