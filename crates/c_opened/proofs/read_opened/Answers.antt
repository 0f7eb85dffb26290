-- `c_opened::read_opened` meets its contract: the test of the machine picks the case, and each number is the field of its place.
-- Assumes nothing.
use Rattle.std.proofs.Common.{refl, ne_eqb, eq-eqb, Err}
use Rattle.answer.proofs.Laws.{must_on, must_off}
use Rattle.c_opened.specs.Opened.{read_opened_of}
use Rattle.c_opened.proofs.read_opened.Goals as goal

pub returns-then-machine-ne-X64 : goal.returns-then-machine-ne-X64
unfolding read_opened_of
returns-then-machine-ne-X64 c = must_off Err _ _ _ (ne_eqb _ _ c.if-machine-ne-X64.true) c.into.ensures

pub returns : goal.returns
unfolding read_opened_of
returns c = must_on Err _ _ _ (eq-eqb _ _ c.if-machine-ne-X64.false) (rw c.small.ensures refl)
