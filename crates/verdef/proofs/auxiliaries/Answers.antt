-- `verdef::auxiliaries` meets its contract: it is the list of auxiliaries from the place that the row gives.
-- Assumes nothing.
use Rattle.verdef.specs.Verdef.{auxiliaries_of, auxiliaries_out}
use Rattle.verdef.proofs.auxiliaries.Goals as goal

pub returns : goal.returns
unfolding auxiliaries_of auxiliaries_out
returns c = c.list.ensures
