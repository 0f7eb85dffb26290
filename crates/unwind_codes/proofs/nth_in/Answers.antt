-- `unwind_codes::nth_in` meets its contract. The invariant: the code to reach is the one at the index that is left, of the codes from here
-- on. The measure is the number of slots left.
-- Assumes nothing.
use Rattle.std.proofs.Common.{◌≡◌, sym, ap, ◌∙◌, Err, arith, rules}
use Rattle.unwind_operation.proofs.Laws.{code_within}
use Rattle.unwind_codes.specs.Code.{nth_in}
use Rattle.unwind_codes.proofs.Laws.{nth_past, nth_refused, nth_here, nth_more}
use Rattle.unwind_codes.proofs.nth_in.Goals as goal

pub returns-in_err-taken : goal.returns-in_err-taken
returns-in_err-taken c =
    let k : c.from_residual.result ≡ Err c.in_err-taken.field-0.0 = search rules in
    ap nth_in k ∙ nth_refused _ _ _ _ _ c.loop-place-test.true c.next_code.ensures c.in_err-taken.was ∙ sym c.loop-place.invariant

pub returns-then-left-eq0 : goal.returns-then-left-eq0
returns-then-left-eq0 c = nth_here _ _ _ _ _ c.loop-place-test.true c.next_code.ensures c.in_ok-taken.was c.if-left-eq0.true ∙ sym c.loop-place.invariant

pub loop-place-smaller : goal.loop-place-smaller
loop-place-smaller c =
    let w = code_within _ _ _ _ (sym c.in_ok-taken.was ∙ c.next_code.ensures) in
    omega arith

pub loop-place-preserved : goal.loop-place-preserved
loop-place-preserved c = c.loop-place.invariant ∙ nth_more _ _ _ _ _ c.loop-place-test.true c.next_code.ensures c.in_ok-taken.was c.if-left-eq0.false

pub returns : goal.returns
returns c = nth_past _ _ _ _ _ c.loop-place-test.false ∙ sym c.loop-place.invariant
