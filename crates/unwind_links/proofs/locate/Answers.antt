-- `unwind_links::locate` meets its contract: an odd address is a link less, and an even one names the place.
-- Assumes nothing.
use Rattle.std.proofs.Common.{◌≡◌, sym, ◌∙◌, Err, arith, rules}
use Rattle.unwind_links.proofs.Laws.{locate_even, locate_none, locate_refused, locate_on}
use Rattle.unwind_links.proofs.locate.Goals as goal

pub returns-then-more-eq0 : goal.returns-then-more-eq0
returns-then-more-eq0 c = locate_none _ _ _ _ c.loop-here-test.true c.if-more-eq0.true c.into.ensures ∙ sym c.loop-here.invariant.0

pub returns-in_err-here : goal.returns-in_err-here
returns-in_err-here c =
    let k : c.from_residual.result ≡ Err c.in_err-here.field-0.0 = search rules in
    k ∙ locate_refused _ _ _ _ c.loop-here-test.true c.if-more-eq0.false c.record_at.ensures c.in_err-here.was ∙ sym c.loop-here.invariant.0

pub loop-here-preserved : goal.loop-here-preserved
loop-here-preserved c = (
  c.loop-here.invariant.0 ∙ sym (locate_on _ _ _ _ c.loop-here-test.true c.if-more-eq0.false c.record_at.ensures c.in_ok-here.was),
  omega arith,
)

pub returns : goal.returns
returns c = locate_even _ _ _ _ c.loop-here-test.false c.place_of.ensures ∙ sym c.loop-here.invariant.0
