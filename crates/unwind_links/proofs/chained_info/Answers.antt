-- `unwind_links::chained_info` meets its contract: a link more than led to the info, or, where that number would not fit, another past the
-- limit.
-- Assumes nothing.
use Rattle.std.proofs.Common.{◌≡◌, sym, ap, ◌∙◌, Err, rules}
use Rattle.unwind_links.specs.Links.{info_at}
use Rattle.unwind_links.proofs.Laws.{info_unlocated, one_more}
use Rattle.unwind_links.proofs.chained_info.Goals as goal

pub returns-in_err-place : goal.returns-in_err-place
returns-in_err-place c =
    let k : c.from_residual.result ≡ Err c.in_err-place.field-0.0 = search rules in
    let a = c.args in
    k ∙ info_unlocated _ (one_more a.file.now a.sections a.function a.links c.saturating_add.ensures c.locate_info.ensures ∙ c.in_err-place.was)

pub returns : goal.returns
returns c =
    let a = c.args in
    let e = one_more a.file.now a.sections a.function a.links c.saturating_add.ensures c.locate_info.ensures in
    c.reach.ensures ∙ ap (info_at a.file.now) (sym c.in_ok-place.was ∙ sym e)
