use Rattle.answer.proofs.Shown.{row_written}
use Rattle.answer.proofs.RefusalDisplay.fmt.Goals as goal

pub returns-clause-writes : goal.returns-clause-writes
returns-clause-writes g c = λ plain ok. search (row_written, c.write_str.ensures.writes plain ok)
