-- `unwind_codes::count_in` meets its contract. The invariant: the number of the codes from here on, and of those passed, is that of all.
-- The measure is the number of slots left.
-- Assumes nothing.
use mathlib.Core.Path.{◌≡◌}
use Prim.Native.Nat.{◌-◌, ◌≤◌}
use Rattle.unwind_operation.specs.Operation.{slot_count}
use Rattle.unwind_codes.specs.Codes.{codes_at}
use Rattle.unwind_codes.specs.Code.{count_in}
use Rattle.unwind_codes.proofs.Laws.{count_from}
use Rattle.unwind_codes.proofs.count_in.Given as goal

abbrev pub invariant-loop-place : goal.invariant-loop-place
invariant-loop-place l =
    (count_in (codes_at l.slots 0 l.version l.frame.0) ≡ count_from l.codes (codes_at l.slots l.place l.version l.frame.0)) ×
    (l.codes ≤ l.place)

abbrev pub decreases-loop-place : goal.decreases-loop-place
decreases-loop-place l = slot_count l.slots - l.place
