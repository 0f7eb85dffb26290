-- `unwind_codes::count_in` meets its contract. The invariant: the number of the codes from here on, and of those passed, is that of all.
-- The measure is the number of slots left.
-- Assumes nothing.
use Rattle.std.proofs.Common.{◌≡◌, sym, ◌∙◌, Err, arith, rules}
use Rattle.unwind_operation.proofs.Laws.{code_within}
use Rattle.unwind_codes.proofs.Laws.{count_end, count_refused, count_more}
use Rattle.unwind_codes.proofs.count_in.Goals as goal

pub returns-in_err-place : goal.returns-in_err-place
returns-in_err-place c =
    let k : c.from_residual.result ≡ Err c.in_err-place.field-0.0 = search rules in
    k ∙ count_refused _ _ _ _ _ c.loop-place-test.true c.next_code.ensures c.in_err-place.was ∙ sym c.loop-place.invariant.0

pub loop-place-smaller : goal.loop-place-smaller
loop-place-smaller c =
    let w = code_within _ _ _ _ (sym c.in_ok-place.was ∙ c.next_code.ensures) in
    omega arith

pub loop-place-preserved : goal.loop-place-preserved
loop-place-preserved c =
    let w = code_within _ _ _ _ (sym c.in_ok-place.was ∙ c.next_code.ensures) in
    (c.loop-place.invariant.0 ∙ count_more _ _ _ _ _ c.loop-place-test.true c.next_code.ensures c.in_ok-place.was, omega arith)

pub returns : goal.returns
returns c = count_end _ _ _ _ _ c.loop-place-test.false ∙ sym c.loop-place.invariant.0
