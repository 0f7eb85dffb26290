-- What each answer of this crate stands for, and how many numbers that is.
-- Assumes nothing.
use Rattle.std.specs.Prelude.{Result, Option, Some, None, ℕ, List, [], ◌∷◌, ◌++◌, replicate}
use Rattle.answer.specs.Answer.{Answer, answer_of}
use Rattle.answer.specs.declared.Refusal.{Refusal}
use Rattle.unwind_info.specs.Answers.{info_numbers}
use Rattle.unwind_links.specs.declared.InfoPlace.{InfoPlace}
use Rattle.unwind_links.specs.declared.ReachedInfo.{ReachedInfo}

-- the begin of the record that names it, its file offset, and the links that led there
abbrev pub place_numbers : InfoPlace → List ℕ
place_numbers p = p.begin ∷ p.offset ∷ p.links ∷ []

abbrev pub reached_numbers : ReachedInfo → List ℕ
reached_numbers r = place_numbers r.place ++ info_numbers r.info

abbrev pub answer_locate_info : Result InfoPlace Refusal → Answer
answer_locate_info = answer_of place_numbers

abbrev pub count_locate_info : ℕ
count_locate_info = 3

abbrev pub answer_reach_info : Result ReachedInfo Refusal → Answer
answer_reach_info = answer_of reached_numbers

abbrev pub count_reach_info : ℕ
count_reach_info = 15

-- 1 and the info; 0 and zeros where there is none
abbrev pub next_numbers : Option ReachedInfo → List ℕ
next_numbers (Some r) = 1 ∷ reached_numbers r
next_numbers None = replicate 16 0

abbrev pub answer_next_info : Result (Option ReachedInfo) Refusal → Answer
answer_next_info = answer_of next_numbers

abbrev pub count_next_info : ℕ
count_next_info = 16
