-- What the answer that is numbers stands for, and how many they are.
-- Assumes nothing.
use Rattle.std.specs.Prelude.{Result, ℕ, List, [], ◌∷◌}
use Rattle.answer.specs.Answer.{Answer, answer_of}
use Rattle.answer.specs.declared.Refusal.{Refusal}
use Rattle.unwind_chain.specs.declared.Totals.{Totals}

abbrev pub totals_numbers : Totals → List ℕ
totals_numbers t = t.links ∷ t.codes ∷ []

abbrev pub answer_count_all_codes : Result Totals Refusal → Answer
answer_count_all_codes = answer_of totals_numbers

abbrev pub count_count_all_codes : ℕ
count_count_all_codes = 2
