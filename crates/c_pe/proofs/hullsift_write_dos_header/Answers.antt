-- `c_pe::hullsift_write_dos_header` meets its contract: what it answers is what the answer of the door stands for. Assumes nothing.
use Rattle.fields.specs.Answers.{answer_write_bytes}
use Rattle.answer.proofs.Laws.{told_bytes}
use Rattle.c_pe.proofs.hullsift_write_dos_header.Goals as goal

pub returns-clause-answer : goal.returns-clause-answer
returns-clause-answer c = (told_bytes answer_write_bytes (rw c.dos_header_of.ensures at c.write.ensures) c.number.ensures).0

pub returns-clause-lent : goal.returns-clause-lent
returns-clause-lent c = (told_bytes answer_write_bytes (rw c.dos_header_of.ensures at c.write.ensures) c.number.ensures).1
