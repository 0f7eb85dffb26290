-- `pe_dos::write` meets its contract: the signature is judged, then the room; where there is room, the numbers are put one
-- after the other.
-- Assumes nothing.
use Rattle.std.proofs.Common.{sym, ◌∙◌, ◌+◌, ◌≤◌, ◌<◌, false, length, leb-true, leb-false, arith}
use Rattle.layout.proofs.Laws.{stored_at, room_at}
use Rattle.pe_dos.specs.Dos.{dos_header}
use Rattle.pe_dos.proofs.Laws.{write_wrong, write_done, write_refused, halves_wrote}
use Rattle.pe_dos.proofs.write.Goals as goal

pub returns-then-header-ne-SIGNATURE : goal.returns-then-header-ne-SIGNATURE
returns-then-header-ne-SIGNATURE c = write_wrong _ _ _ c.if-header-ne-SIGNATURE.true c.into.ensures

pub returns-in_err-write : goal.returns-in_err-write
returns-in_err-write c =
    let h : c.args.at + 64 ≤ length c.args.out.now = leb-true _ _ (sym c.fits.ensures ∙ c.if-fits.true) in
    let p = halves_wrote c.args.header _ c.args.out.now _ c.args.at c.halves_of.ensures c.put_halves.ensures.1 in
    absurd (room_at false dos_header 30 (omega arith) _ _ _ _ _ p (omega arith) (omega arith) c.write.ensures.0 c.in_err-write.was)

pub returns-then-fits : goal.returns-then-fits
returns-then-fits c =
    let h : c.args.at + 64 ≤ length c.args.out.now = leb-true _ _ (sym c.fits.ensures ∙ c.if-fits.true) in
    let p = halves_wrote c.args.header _ c.args.out.now _ c.args.at c.halves_of.ensures c.put_halves.ensures.1 in
    let q = stored_at false dos_header 30 (omega arith) _ _ _ _ _ _ p (omega arith) (omega arith) c.write.ensures.1 in
    write_done _ _ _ c.if-header-ne-SIGNATURE.false h q

pub returns : goal.returns
returns c =
    let h : length c.args.out.now < c.args.at + 64 = leb-false _ _ (sym c.fits.ensures ∙ c.if-fits.false) in
    write_refused _ _ _ c.if-header-ne-SIGNATURE.false h c.into-2.ensures
