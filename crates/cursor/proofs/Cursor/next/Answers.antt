-- `cursor::Cursor::next` meets its contract: the read of the field tells which case it is, and that the place past it fits.
-- Assumes nothing.
use Rattle.std.proofs.Common.{◌≡◌, ◌∙◌, Err, arith, rules}
use Rattle.fields.proofs.Laws.{found_inside}
use Rattle.cursor.proofs.Laws.{next_read, next_lost}
use Rattle.cursor.proofs.Cursor.next.Goals as goal

pub returns-in_err-number : goal.returns-in_err-number
returns-in_err-number g c =
    let a = c.args in
    let k : c.from_residual.result ≡ Err c.in_err-number.field-0.0 = search rules in
    k ∙ next_lost g.T.Unsigned.of a.big _ a.s.now _ c.read.ensures c.in_err-number.was

pub overflow_add-next : goal.overflow_add-next
overflow_add-next g c =
    let a = c.args in
    let h = found_inside g.T.Unsigned.of a.big _ a.s.now _ c.read.ensures c.in_ok-number.was in
    omega (arith, h, c.WIDTH.ensures)

pub returns : goal.returns
returns g c =
    let a = c.args in
    next_read g.T.Unsigned.of a.big _ a.s.now _ c.read.ensures c.WIDTH.ensures c.in_ok-number.was
