-- `unwind_undo::base_of` meets its contract.
-- Assumes nothing.
use Rattle.std.proofs.Common.{◌≡◌, ap, ℕ, ◌-◌, ◌≤◌, ◌<◌, Option, Some, None, SomeIff, arith, eq-eqb, ne_eqb}
use borrow.Author.Tests.{le-leb, lt-leb}
use lib.Dec.{leb}
use Rattle.answer.specs.Test.{pick}
use Rattle.unwind_undo.specs.Code.{base_of}
use Rattle.unwind_undo.proofs.base_of.Goals as goal

-- what `checked_sub` answers
less_of : (o : Option ℕ) (a n : ℕ) → SomeIff o (n ≤ a) (a - n) → o ≡ pick (leb n a) (Some (a - n)) None
less_of (Some x) a n h = rw (le-leb n a h.0) (ap Some h.1)
less_of None a n h = let b : a < n = omega (arith, h) in rw (lt-leb n a b)

pub returns-then-frame-eq0 : goal.returns-then-frame-eq0
unfolding base_of
returns-then-frame-eq0 c = simp (eq-eqb _ _ c.if-frame-eq0.true, c.get_gpr.ensures)

pub returns-else-frame-eq0 : goal.returns-else-frame-eq0
unfolding base_of
returns-else-frame-eq0 c =
    simp (ne_eqb _ _ c.if-frame-eq0.false)
    (rw c.get_gpr-else-frame-eq0.ensures at (less_of c.checked_sub.result _ c.args.frame.offset c.checked_sub.ensures))
