-- `unwind_operation::two_slots` meets its contract: the read of the number tells whether the slots pass the count.
-- Assumes nothing.
use native.Mathlib.Omega.{arith}
use mathlib.Core.Path.{◌∙◌}
use mathlib.Core.Bool.{false}
use Rattle.fields.proofs.Laws.{found, missed}
use Rattle.unwind_operation.proofs.Laws.{two_taken, two_passed}
use Rattle.unwind_operation.proofs.two_slots.Goals as goal

pub returns-in-Ok : goal.returns-in-Ok
returns-in-Ok c =
    let f = found false 2 _ _ c.read.ensures c.in-Ok.is in
    c.taken.ensures ∙ two_taken _ _ _ _ _ (omega (arith, f.inside)) f.value c.scaled.ensures
    c.operation.ensures

pub returns-in-Err : goal.returns-in-Err
returns-in-Err c =
    let m = missed false 2 _ _ c.read.ensures c.in-Err.is in
    two_passed _ _ _ _ _ (omega (arith, m.past)) c.beyond.ensures
