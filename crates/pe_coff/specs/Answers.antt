-- What the answer of this crate stands for, and how many numbers that is.
-- Assumes nothing.
use Rattle.std.specs.Prelude.{Result, ℕ}
use Rattle.answer.specs.Answer.{Answer, answer_of}
use Rattle.answer.specs.declared.Refusal.{Refusal}
use Rattle.pe_coff.specs.Coff.{numbers_of}
use Rattle.pe_coff.specs.declared.CoffHeader.{CoffHeader}

abbrev pub answer_read_coff_header : Result CoffHeader Refusal → Answer
answer_read_coff_header = answer_of numbers_of

abbrev pub count_read_coff_header : ℕ
count_read_coff_header = 7
