-- `runtime_lookup::search_table` meets its contract: both forms end as halving does, with as many records read.
-- Assumes nothing.
use Rattle.runtime_lookup.proofs.Laws.{searches}
use Rattle.runtime_lookup.proofs.search_table.Goals as goal

pub returns-then-lies : goal.returns-then-lies
returns-then-lies c = searches _ _ _ _ c.requires c.inside.ensures

pub returns : goal.returns
returns c = searches _ _ _ _ c.requires c.tested.ensures
