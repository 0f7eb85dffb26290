-- What the answer of this crate stands for, and how many numbers that is.
-- Assumes nothing.
use Rattle.std.specs.Prelude.{Result, ℕ}
use Rattle.answer.specs.Answer.{Answer, answer_of}
use Rattle.answer.specs.declared.Refusal.{Refusal}
use Rattle.pe_section.specs.Section.{numbers_of}
use Rattle.pe_section.specs.declared.SectionTable.{SectionTable}

abbrev pub answer_read_section_table : Result SectionTable Refusal → Answer
answer_read_section_table = answer_of numbers_of

abbrev pub count_read_section_table : ℕ
count_read_section_table = 10
