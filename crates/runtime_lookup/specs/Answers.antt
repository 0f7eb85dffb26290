-- What each answer of this crate stands for, the record, its index and, where it is counted, the number of records read; and how many
-- numbers that is.
-- Assumes nothing.
use Rattle.std.specs.Prelude.{Result, ℕ, List, [], ◌∷◌, ◌++◌}
use Rattle.answer.specs.Answer.{Answer, answer_of}
use Rattle.answer.specs.declared.Refusal.{Refusal}
use Rattle.runtime_function.specs.RuntimeFunction.{numbers_of}
use Rattle.runtime_lookup.specs.declared.Found.{Found}
use Rattle.runtime_lookup.specs.declared.Holder.{Holder}

-- the record and its index, as numbers
abbrev pub holder_numbers : Holder → List ℕ
holder_numbers h = numbers_of h.function ++ (h.index ∷ [])

-- with the number of records read
abbrev pub found_numbers : Found → List ℕ
found_numbers x = numbers_of x.holder.function ++ (x.holder.index ∷ x.reads ∷ [])

abbrev pub answer_find_function : Result Found Refusal → Answer
answer_find_function = answer_of found_numbers

abbrev pub count_find_function : ℕ
count_find_function = 5

abbrev pub answer_check_and_find : Result Holder Refusal → Answer
answer_check_and_find = answer_of holder_numbers

abbrev pub count_check_and_find : ℕ
count_check_and_find = 4
