-- What the answer of this crate stands for, how many numbers that is, and the header that C is handed.
-- Assumes nothing.
use Rattle.std.specs.Prelude.{Result, Ok, Err, ℕ, []}
use Rattle.answer.specs.Answer.{Answer, answer_of}
use Rattle.answer.specs.declared.Refusal.{Refusal}
use Rattle.pe_dos.specs.Dos.{header_of, numbers_of}
use Rattle.pe_dos.specs.declared.DosHeader.{DosHeader}

abbrev pub answer_read_dos_header : Result DosHeader Refusal → Answer
answer_read_dos_header = answer_of numbers_of

abbrev pub count_read_dos_header : ℕ
count_read_dos_header = 31

-- 6.17: the header that was read, or one of zeros where it is refused
abbrev pub header_or_zeros : Result DosHeader Refusal → DosHeader
header_or_zeros (Ok h) = h
header_or_zeros (Err k) = header_of []
