-- `version_record::inside` meets its contract: the number is there, and the test of the place does not wrap.
-- Assumes nothing.
use Rattle.std.proofs.Common.{arith}
use Rattle.fields.proofs.Laws.{found, missed}
use Rattle.version_record.proofs.Laws.{shifted}
use Rattle.version_record.proofs.inside.Goals as goal

pub returns-in-Ok : goal.returns-in-Ok
returns-in-Ok c =
    let f = found c.args.big 4 _ _ c.read.ensures c.in-Ok.is in
    rw (← f.value) (shifted c.in-Ok.offset c.args.at _ c.requires.0)

pub returns-in-Err : goal.returns-in-Err
returns-in-Err c =
    let m = missed c.args.big 4 _ _ c.read.ensures c.in-Err.is in
    absurd (omega (arith, m.past, c.requires.1))
