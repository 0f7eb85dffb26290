-- `fields::bytes_at` meets its contract: the field is in the bytes, or it ends past them.
-- Assumes nothing.
use Rattle.std.proofs.Common.{◌≡◌, refl, sym, ◌∙◌, ◌+◌, ◌-◌, leb-true, leb-false, arith}
use Rattle.fields.proofs.Laws.{part_value, part_cut}
use Rattle.fields.proofs.bytes_at.Goals as goal

pub returns-then-fits : goal.returns-then-fits
returns-then-fits g c =
    let a = c.args in
    let h = leb-true _ _ (sym c.fits.ensures ∙ c.if-fits.true) in
    let k : a.at + g.row.N - a.at ≡ g.row.N = omega arith in
    part_value g.row.N a.s.now a.at h (c.copy_from_slice.ensures.after ∙ rw k refl)

pub returns : goal.returns
returns g c =
    let a = c.args in
    part_cut g.row.N a.s.now a.at (leb-false _ _ (sym c.fits.ensures ∙ c.if-fits.false)) c.cut.ensures
