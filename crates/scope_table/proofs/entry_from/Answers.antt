-- `scope_table::entry_from` meets its contract: the count is refused, the index is at or after it, or the entry is read.
-- Assumes nothing.
use Rattle.std.proofs.Common.{◌≡◌, sym, ◌∙◌, Err, arith, rules}
use Rattle.scope_table.proofs.Laws.{count_told, entry_refused, entry_none, entry_there}
use Rattle.scope_table.proofs.entry_from.Goals as goal

pub returns-in_err-count : goal.returns-in_err-count
returns-in_err-count c =
    let k : c.from_residual.result ≡ Err c.in_err-count.field-0.0 = search rules in
    k ∙ entry_refused _ _ _ c.count_from.ensures c.in_err-count.was

pub overflow_add-start : goal.overflow_add-start
overflow_add-start c =
    let p = count_told _ _ (sym c.in_ok-count.was ∙ c.count_from.ensures) in
    omega (arith, p.1)

pub overflow_add-start-then-index-count : goal.overflow_add-start-then-index-count
overflow_add-start-then-index-count c =
    let p = count_told _ _ (sym c.in_ok-count.was ∙ c.count_from.ensures) in
    omega (arith, p.1)

pub returns-then-index-count : goal.returns-then-index-count
returns-then-index-count c = entry_there _ _ _ c.count_from.ensures c.in_ok-count.was c.if-index-count.true c.read.ensures

pub returns : goal.returns
returns c = entry_none _ _ _ c.count_from.ensures c.in_ok-count.was c.if-index-count.false c.into.ensures
