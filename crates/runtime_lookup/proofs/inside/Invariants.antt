-- `runtime_lookup::inside` meets its contract. The invariant: the search among the records left goes on as the whole one does, and every
-- record read lies in the file, since the table does. The measure is the number of records left.
-- Assumes nothing.
use Prim.Native.Nat.{◌-◌}
use Rattle.runtime_table.specs.Table.{table_of}
use Rattle.runtime_lookup.proofs.Laws.{Left}
use Rattle.runtime_lookup.proofs.inside.Given as goal

abbrev pub invariant-loop-low : goal.invariant-loop-low
invariant-loop-low l = Left (table_of l.file l.table) l.count l.address l.low l.high l.reads

abbrev pub decreases-loop-low : goal.decreases-loop-low
decreases-loop-low l = l.high - l.low
