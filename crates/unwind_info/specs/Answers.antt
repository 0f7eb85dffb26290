-- What each answer of this crate stands for, and how many numbers that is.
-- Assumes nothing.
use Rattle.std.specs.Prelude.{Result, List, [], ◌∷◌, ◌++◌, ℕ}
use Rattle.answer.specs.Answer.{Answer, answer_of}
use Rattle.answer.specs.declared.Refusal.{Refusal}
use Rattle.runtime_function.specs.RuntimeFunction.{numbers_of}
use Rattle.unwind_info.specs.declared.UnwindHeader.{UnwindHeader}
use Rattle.unwind_info.specs.declared.UnwindInfo.{UnwindInfo}
use Rattle.unwind_info.specs.declared.HandlerKind.{HandlerKind}
use Rattle.unwind_info.specs.declared.HandlerKind.TheVariants.{Exception, Termination}
use Rattle.unwind_info.specs.declared.Follows.{Follows}
use Rattle.unwind_info.specs.declared.Follows.TheVariants.{Nothing, Chained, Handler}

-- 10.13: 2 for an exception handler, 3 for a termination handler
abbrev pub kind_number : HandlerKind → ℕ
kind_number Exception = 2
kind_number Termination = 3

-- 10.13: 0 for nothing, 1 for a chained record, or the kind of a handler; then the three fields of the record, or the handler's address and
-- the start and length of its data
abbrev pub follows_numbers : Follows → List ℕ
follows_numbers Nothing = 0 ∷ 0 ∷ 0 ∷ 0 ∷ []
follows_numbers (Chained e) = 1 ∷ numbers_of e
follows_numbers (Handler h) = kind_number h.kind ∷ h.address ∷ h.start ∷ h.length ∷ []

-- 10.13: the header, with the place of its slots and of what follows them
abbrev pub header_numbers : UnwindHeader → List ℕ
header_numbers h =
    h.version
    ∷ h.flags
    ∷ h.size_of_prolog
    ∷ h.count_of_codes
    ∷ h.frame_register.0
    ∷ h.frame_register_offset
    ∷ h.code_start
    ∷ h.follows_at
    ∷ []

abbrev pub info_numbers : UnwindInfo → List ℕ
info_numbers i = header_numbers i.header ++ follows_numbers i.follows

abbrev pub answer_read_header : Result UnwindHeader Refusal → Answer
answer_read_header = answer_of header_numbers

abbrev pub count_read_header : ℕ
count_read_header = 8

abbrev pub answer_read_follows : Result Follows Refusal → Answer
answer_read_follows = answer_of follows_numbers

abbrev pub count_read_follows : ℕ
count_read_follows = 4

abbrev pub answer_read_info : Result UnwindInfo Refusal → Answer
answer_read_info = answer_of info_numbers

abbrev pub count_read_info : ℕ
count_read_info = 12
