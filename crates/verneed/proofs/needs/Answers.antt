-- `verneed::needs` meets its contract: it is the list of needs from the section's start.
-- Assumes nothing.
use Rattle.verneed.specs.Verneed.{needs_of, needs_out}
use Rattle.verneed.proofs.needs.Goals as goal

pub returns : goal.returns
unfolding needs_of needs_out
returns c = c.list.ensures
