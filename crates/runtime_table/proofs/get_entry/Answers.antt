-- `runtime_table::get_entry` meets its contract: a record past 64 bits is past the bytes, and any other is read where it is.
-- Assumes nothing.
use native.Mathlib.Omega.{arith}
use Rattle.runtime_table.specs.Table.{get_entry_of}
use Rattle.runtime_table.proofs.Laws.{record_past}
use Rattle.runtime_table.proofs.get_entry.Goals as goal

pub returns-then-table-index : goal.returns-then-table-index
returns-then-table-index c = record_past _ _ _ (omega arith) (omega arith) c.beyond.ensures

pub returns : goal.returns
unfolding get_entry_of
returns c = c.read.ensures
