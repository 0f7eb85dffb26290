-- `unwind_codes::nth_in` meets its contract. The invariant: the code to reach is the one at the index that is left, of the codes from here
-- on. The measure is the number of slots left.
-- Assumes nothing.
use mathlib.Core.Path.{◌≡◌}
use Prim.Native.Nat.{◌-◌}
use Rattle.unwind_operation.specs.Operation.{slot_count}
use Rattle.unwind_codes.specs.Codes.{codes_at, nth_of}
use Rattle.unwind_codes.proofs.nth_in.Given as goal

abbrev pub invariant-loop-place : goal.invariant-loop-place
invariant-loop-place l = nth_of (codes_at l.slots 0 l.version l.frame.0) l.index ≡ nth_of (codes_at l.slots l.place l.version l.frame.0) l.left

abbrev pub decreases-loop-place : goal.decreases-loop-place
decreases-loop-place l = slot_count l.slots - l.place
