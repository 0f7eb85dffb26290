-- `runtime_table::lies` meets its contract: no record needs no byte, and others fit by the test of a field as wide as all of them.
-- Assumes nothing.
use Rattle.std.proofs.Common.{◌∙◌, eq-eqb, arith}
use Rattle.std.proofs.lemmas.Bool.{lt-leb}
use Rattle.runtime_table.proofs.Laws.{lies_none, lies_as, lies_over}
use Rattle.runtime_table.proofs.lies.Goals as goal

pub returns-then-count-eq0 : goal.returns-then-count-eq0
returns-then-count-eq0 c = eq-eqb _ _ c.if-count-eq0.true ∙ lies_none _ _ _ c.if-count-eq0.true

pub returns-then-count-len : goal.returns-then-count-len
returns-then-count-len c = lies_as _ _ _ c.if-count-eq0.false c.fits.ensures

pub returns-else-count-len : goal.returns-else-count-len
returns-else-count-len c = lt-leb _ _ c.if-count-len.false ∙ lies_over _ _ _ c.if-count-eq0.false (omega arith)
