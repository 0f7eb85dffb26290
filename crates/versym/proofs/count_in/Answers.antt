-- `versym::count_in` meets its contract: the test of the last byte picks the case.
-- Assumes nothing.
use borrow.Author.Tests.{eq-eqb, ne_eqb}
use Rattle.versym.specs.Versym.{count_in_of}
use Rattle.versym.proofs.count_in.Goals as goal

pub returns-then-section-eq0 : goal.returns-then-section-eq0
unfolding count_in_of
returns-then-section-eq0 c = simp (eq-eqb _ _ c.if-section-eq0.true)

pub returns-else-section-eq0 : goal.returns-else-section-eq0
unfolding count_in_of
returns-else-section-eq0 c = simp (ne_eqb _ _ c.if-section-eq0.false)
