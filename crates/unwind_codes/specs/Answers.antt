-- What each answer of this crate stands for, and how many numbers that is.
-- Assumes nothing.
use Rattle.std.specs.Prelude.{Result, ℕ, List, ◌∷◌}
use Rattle.answer.specs.Answer.{Answer, answer_of}
use Rattle.answer.specs.declared.Refusal.{Refusal}
use Rattle.unwind_operation.specs.Answers.{code_numbers}
use Rattle.unwind_operation.specs.declared.UnwindCode.{UnwindCode}
use Rattle.unwind_info.specs.Answers.{info_numbers}
use Rattle.unwind_codes.specs.declared.CheckedInfo.{CheckedInfo}

-- 11.12: the number of codes, then the info
abbrev pub checked_numbers : CheckedInfo → List ℕ
checked_numbers c = c.codes ∷ info_numbers c.info

abbrev pub answer_check_info : Result CheckedInfo Refusal → Answer
answer_check_info = answer_of checked_numbers

abbrev pub count_check_info : ℕ
count_check_info = 13

abbrev pub answer_read_code : Result UnwindCode Refusal → Answer
answer_read_code = answer_of code_numbers

abbrev pub count_read_code : ℕ
count_read_code = 5
