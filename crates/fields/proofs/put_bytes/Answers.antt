-- `fields::put_bytes` meets its contract: the test is whether the field fits.
-- Assumes nothing.
use Rattle.std.proofs.Common.{refl, sym, ◌∙◌, length, leb-true, leb-false}
use Rattle.fields.proofs.Laws.{store_done, store_refused, put_part}
use Rattle.fields.proofs.put_bytes.Goals as goal

pub returns-then-fits : goal.returns-then-fits
returns-then-fits c =
    let a = c.args in
    let bs = a.bytes.now in
    let h = leb-true _ _ (sym c.fits.ensures ∙ c.if-fits.true) in
    store_done (length bs) a.out.now a.at bs refl h (put_part (length bs) a.out.now a.at refl c.copy_from_slice.ensures.after)

pub returns : goal.returns
returns c =
    let a = c.args in
    let bs = a.bytes.now in
    store_refused (length bs) a.out.now a.at bs refl (leb-false _ _ (sym c.fits.ensures ∙ c.if-fits.false)) c.into.ensures
