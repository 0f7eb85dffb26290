-- `pe_dos::halves_at` meets its contract. The invariant: the numbers before the index are those of the run, and the cursor is after them.
-- Assumes nothing.
use Rattle.std.proofs.Common.{◌≡◌, ◌+◌, ◌*◌, ◌≤◌, ◌<◌, [], false, length, take}
use Rattle.layout.specs.Layout.{array, numbers_at}
use Rattle.pe_dos.proofs.halves_at.Given as goal

abbrev pub invariant-loop-half : goal.invariant-loop-half
invariant-loop-half l =
    (l.cursor.at ≡ l.fn.from.at + l.half-index * 2) × (0 < l.half-index → l.cursor.at ≤ length l.s) × (length l.half-items ≡ 29) ×
    (take l.half-index l.half-items ≡ numbers_at false (array l.half-index 2 []) l.s l.fn.from.at)
