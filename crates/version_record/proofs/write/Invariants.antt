-- `version_record::write` meets its contract. The invariant of its loop: as many numbers as were taken are in the list, the rest of which
-- is as it was, and the next field is at hand.
-- Assumes nothing.
use mathlib.Core.Path.{◌≡◌}
use Prim.Native.Nat.{◌+◌}
use lib.ListN.{length, take}
use Rattle.fields.specs.Field.{put}
use Rattle.layout.specs.Layout.{size as size', numbers_at}
use Rattle.version_record.specs.Record.{layout}
use Rattle.version_record.proofs.write.Given as goal

abbrev pub invariant-loop-i : goal.invariant-loop-i
invariant-loop-i l =
    (l.next ≡ l.at + size' (take l.i (layout l.fn.kind))) ×
    (l.out ≡ put l.initial.out l.base (take l.i (numbers_at l.big (layout l.fn.kind) l.section l.at))) ×
    (length l.out ≡ length l.initial.out)
