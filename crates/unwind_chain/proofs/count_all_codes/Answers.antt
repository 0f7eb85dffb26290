-- `unwind_chain::count_all_codes` meets its contract: each info's codes are added, and it is the last, or another is next.
-- Assumes nothing.
use Rattle.std.proofs.Common.{◌≡◌, sym, ◌∙◌, Err, arith, rules}
use Rattle.unwind_chain.proofs.Laws.{count_refused, count_last, count_chained, link_bound}
use Rattle.unwind_chain.proofs.count_all_codes.Goals as goal

pub returns-in_err-linked : goal.returns-in_err-linked
returns-in_err-linked c =
    let k : c.from_residual.result ≡ Err c.in_err-linked.field-0.0 = search rules in
    k ∙ count_refused _ _ _ _ _ c.read_link.ensures c.in_err-linked.was ∙ c.loop-linked.invariant.0

pub overflow_add-codes : goal.overflow_add-codes
overflow_add-codes c =
    let b = link_bound _ _ _ _ 0 c.read_link.ensures c.in_ok-linked.was in
    omega (arith, b.2, c.loop-linked.invariant.1, c.loop-linked.invariant.2)

pub returns-in_default : goal.returns-in_default
returns-in_default c =
    count_last _ _ _ _ _ c.read_link.ensures c.in_ok-linked.was c.in_default.is ∙ c.loop-linked.invariant.0

pub overflow_add-links : goal.overflow_add-links
overflow_add-links c = let b = link_bound _ _ _ _ 0 c.read_link.ensures c.in_ok-linked.was in omega (arith, b.1)

pub loop-linked-smaller : goal.loop-linked-smaller
loop-linked-smaller c =
    let b = link_bound _ _ _ _ 0 c.read_link.ensures c.in_ok-linked.was in
    omega (arith, b.0, b.1, c.loop-linked.invariant.1)

pub loop-linked-preserved : goal.loop-linked-preserved
loop-linked-preserved c =
    let b = link_bound _ _ _ _ 0 c.read_link.ensures c.in_ok-linked.was in (
      sym (count_chained _ _ _ _ _ c.read_link.ensures c.in_ok-linked.was c.in-Some.is) ∙ c.loop-linked.invariant.0,
      omega (arith, b.1),
      omega (arith, b.0, b.2, c.loop-linked.invariant.2),
    )
