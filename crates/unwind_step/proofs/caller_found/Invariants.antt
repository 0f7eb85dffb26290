-- `unwind_step::caller_found` meets its contract: the loop undoes the codes as the cursor comes to them.
-- Assumes nothing.
use Rattle.unwind_undo.specs.Distance.{distance_of}
use Rattle.unwind_chain.proofs.Walk.{measure}
use Rattle.unwind_step.proofs.Laws.{Left}
use Rattle.unwind_step.proofs.caller_found.Given as goal

abbrev pub invariant-loop-taken : goal.invariant-loop-taken
invariant-loop-taken l =
    Left l.file l.sections l.fn.state l.window.words.now l.window.base (distance_of l.address l.begin) l.initial.cursor l.cursor l.here

abbrev pub decreases-loop-taken : goal.decreases-loop-taken
decreases-loop-taken l = measure l.cursor
