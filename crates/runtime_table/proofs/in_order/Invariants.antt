-- `runtime_table::in_order` meets its contract. The invariant: the records passed are in order, and the last of them ends at `end`.
-- Assumes nothing.
use Rattle.runtime_table.specs.Table.{table_of}
use Rattle.runtime_table.proofs.Laws.{Passed}
use Rattle.runtime_table.proofs.in_order.Given as goal

abbrev pub invariant-loop-index : goal.invariant-loop-index
invariant-loop-index l = Passed (table_of l.file l.table) l.count l.index l.end
