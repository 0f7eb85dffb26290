-- `runtime_function::write` meets its contract: where there is room, each field is put behind the one before it; else nothing is.
-- Assumes nothing.
use Rattle.std.proofs.Common.{sym, ◌∙◌, ◌+◌, ◌≤◌, ◌<◌, length, false, leb-true, leb-false, arith}
use Rattle.layout.proofs.Laws.{put_none, stored_at, room_at, record_done, record_refused}
use Rattle.runtime_function.specs.RuntimeFunction.{runtime_function, numbers_of}
use Rattle.runtime_function.proofs.write.Goals as goal

pub returns-in_err-write : goal.returns-in_err-write
returns-in_err-write c =
    let a = c.args in
    let o = false in
    let h : c.args.at + 12 ≤ length c.args.out.now = leb-true _ _ (sym c.fits.ensures ∙ c.if-fits.true) in
    let p0 = put_none o (numbers_of a.e) a.out.now a.at (omega arith) in
    absurd (room_at o runtime_function 0 (omega arith) _ _ _ _ _ p0 (omega arith) (omega arith) c.write.ensures.0 c.in_err-write.was)

pub returns-in_err-write-2 : goal.returns-in_err-write-2
returns-in_err-write-2 c =
    let a = c.args in
    let o = false in
    let h : c.args.at + 12 ≤ length c.args.out.now = leb-true _ _ (sym c.fits.ensures ∙ c.if-fits.true) in
    let p0 = put_none o (numbers_of a.e) a.out.now a.at (omega arith) in
    let p1 = stored_at o runtime_function 0 (omega arith) _ _ _ _ _ _ p0 (omega arith) (omega arith) c.write.ensures.1 in
    absurd (room_at o runtime_function 1 (omega arith) _ _ _ _ _ p1 (omega arith) (omega arith) c.write-then-fits.ensures.0 c.in_err-write-2.was)

pub returns-in_err-write-3 : goal.returns-in_err-write-3
returns-in_err-write-3 c =
    let a = c.args in
    let o = false in
    let h : c.args.at + 12 ≤ length c.args.out.now = leb-true _ _ (sym c.fits.ensures ∙ c.if-fits.true) in
    let p0 = put_none o (numbers_of a.e) a.out.now a.at (omega arith) in
    let p1 = stored_at o runtime_function 0 (omega arith) _ _ _ _ _ _ p0 (omega arith) (omega arith) c.write.ensures.1 in
    let p2 = stored_at o runtime_function 1 (omega arith) _ _ _ _ _ _ p1 (omega arith) (omega arith) c.write-then-fits.ensures.1 in
    absurd (room_at o runtime_function 2 (omega arith) _ _ _ _ _ p2 (omega arith) (omega arith) c.write-then-fits-2.ensures.0 c.in_err-write-3.was)

pub returns-then-fits : goal.returns-then-fits
returns-then-fits c =
    let a = c.args in
    let o = false in
    let h : c.args.at + 12 ≤ length c.args.out.now = leb-true _ _ (sym c.fits.ensures ∙ c.if-fits.true) in
    let p0 = put_none o (numbers_of a.e) a.out.now a.at (omega arith) in
    let p1 = stored_at o runtime_function 0 (omega arith) _ _ _ _ _ _ p0 (omega arith) (omega arith) c.write.ensures.1 in
    let p2 = stored_at o runtime_function 1 (omega arith) _ _ _ _ _ _ p1 (omega arith) (omega arith) c.write-then-fits.ensures.1 in
    let p3 = stored_at o runtime_function 2 (omega arith) _ _ _ _ _ _ p2 (omega arith) (omega arith) c.write-then-fits-2.ensures.1 in
    record_done o runtime_function _ _ _ h p3

pub returns : goal.returns
returns c =
    let h : length c.args.out.now < c.args.at + 12 = leb-false _ _ (sym c.fits.ensures ∙ c.if-fits.false) in
    record_refused false runtime_function _ _ _ h c.into.ensures
