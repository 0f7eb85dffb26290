-- `unwind_links::locate` meets its contract. The invariant: from the record reached, with the links that are left, the answer is that of
-- the whole. The measure is the number of links left.
-- Assumes nothing.
use mathlib.Core.Path.{◌≡◌}
use Prim.Native.Nat.{◌≤◌}
use Rattle.unwind_links.specs.Links.{locate_from}
use Rattle.unwind_links.proofs.locate.Given as goal

abbrev pub invariant-loop-here : goal.invariant-loop-here
invariant-loop-here l = (locate_from l.left l.file l.sections l.initial.here ≡ locate_from l.more l.file l.sections l.here) × (l.more ≤ l.left)

abbrev pub decreases-loop-here : goal.decreases-loop-here
decreases-loop-here l = l.more
