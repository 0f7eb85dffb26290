-- `fat::open` meets its contract. The invariant of its loop: the members before the index are accepted.
-- Assumes nothing.
use Rattle.std.proofs.Common.{ℕ, ◌<◌}
use Rattle.fat.proofs.Terms.{Good}
use Rattle.fat.proofs.open.Given as goal

abbrev pub invariant-loop-index : goal.invariant-loop-index
invariant-loop-index l = (j : ℕ) → j < l.index → Good l.file j
