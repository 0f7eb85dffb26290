-- `pe_dos::put_halves` meets its contract: see its invariant.
-- Assumes nothing.
use Rattle.std.proofs.Common.{refl, ◌+◌, ◌≤◌, false, length, arith}
use Rattle.fields.proofs.Laws.{not_refused}
use Rattle.layout.proofs.Laws.{put_none, run_wrote}
use Rattle.pe_dos.proofs.put_halves.Goals as goal

pub loop-half-init : goal.loop-half-init
loop-half-init c = (omega arith, refl, put_none false _ _ _ (omega arith))

pub returns-in_err-write : goal.returns-in_err-write
returns-in_err-write c =
    let v = c.loop-half.invariant in
    let h : c.loop-half.at + 2 ≤ length c.loop-half.out = omega arith in
    absurd (not_refused 2 _ _ h c.write.ensures.0 c.in_err-write.was)

pub loop-half-preserved : goal.loop-half-preserved
loop-half-preserved c =
    let v = c.loop-half.invariant in
    let w = run_wrote false 2 c.args.numbers c.args.out.now _ _ c.args.from c.loop-half.half-index _ (v.1, v.2) (omega arith)
    (omega arith) c.write.ensures.1 in
    (omega arith, w.0, w.1)
