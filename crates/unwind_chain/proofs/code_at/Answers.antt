-- `unwind_chain::code_at` meets its contract: the slots lie in the file, or the refusal is at their end.
-- Assumes nothing.
use Rattle.std.proofs.Common.{◌≡◌, sym, ◌+◌, ◌-◌, ◌*◌, arith, leb-true, leb-false}
use Rattle.unwind_chain.proofs.Next.{code_inside, code_cut}
use Rattle.unwind_chain.proofs.code_at.Goals as goal

pub returns-then-not-fits : goal.returns-then-not-fits
returns-then-not-fits c = code_cut _ _ (leb-false _ _ (sym c.if-not-fits.ensures)) c.cut.ensures

pub returns : goal.returns
returns c =
    let h = c.args.cursor.header in
    let e : h.code_start + 2 * h.count_of_codes - h.code_start ≡ 2 * h.count_of_codes = omega arith in
    code_inside _ _ (leb-true _ _ (sym c.if-not-fits.ensures)) (rw e at c.code_in.ensures)
