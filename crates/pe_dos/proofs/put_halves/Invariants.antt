-- `pe_dos::put_halves` meets its contract. The invariant: the numbers before the index are put, and nothing else.
-- Assumes nothing.
use Rattle.std.proofs.Common.{◌≡◌, ◌+◌, ◌*◌, [], false, length}
use Rattle.fields.specs.Field.{put}
use Rattle.layout.specs.Layout.{array, write_by}
use Rattle.pe_dos.proofs.put_halves.Given as goal

abbrev pub invariant-loop-half : goal.invariant-loop-half
invariant-loop-half l =
    (l.at ≡ l.from + l.half-index * 2) × (length l.out ≡ length l.initial.out) ×
    (l.out ≡ put l.initial.out l.from (write_by false (array l.half-index 2 []) l.half-items))
