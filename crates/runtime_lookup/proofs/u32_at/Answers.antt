-- `runtime_lookup::u32_at` meets its contract: the four bytes, weighed, are the number.
-- Assumes nothing.
use Rattle.std.proofs.Common.{arith}
use Rattle.runtime_lookup.proofs.Laws.{number_four}
use Rattle.runtime_lookup.proofs.u32_at.Goals as goal

pub returns : goal.returns
returns c = number_four _ _ (omega arith) (omega (arith, c.from_le_bytes.ensures))
