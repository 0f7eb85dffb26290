-- `verdef::definitions` meets its contract: it is the list of definitions from the section's start.
-- Assumes nothing.
use Rattle.verdef.specs.Verdef.{definitions_of, definitions_out}
use Rattle.verdef.proofs.definitions.Goals as goal

pub returns : goal.returns
unfolding definitions_of definitions_out
returns c = c.list.ensures
