-- `scope_table::count_from` meets its contract: the count is missing, it fits, or it does not.
-- Assumes nothing.
use Rattle.std.proofs.Common.{◌≡◌, ◌∙◌, Err, false, arith, rules}
use Rattle.cursor.proofs.Laws.{new_at, took, cut}
use Rattle.scope_table.proofs.Laws.{count_cut, count_fits, count_contradicts}
use Rattle.scope_table.proofs.count_from.Goals as goal

pub returns-in_err-count : goal.returns-in_err-count
returns-in_err-count c =
    let k : c.from_residual.result ≡ Err c.in_err-count.field-0.0 = search rules in
    k ∙ count_cut _ _ (new_at c.new-cursor.ensures) (cut false 4 _ c.next.ensures c.in_err-count.was)

pub overflow_sub-s : goal.overflow_sub-s
overflow_sub-s c =
    let f = took false 4 _ c.next.ensures c.in_ok-count.was in
    omega (arith, f.inside, f.past)

pub returns-then-count-s : goal.returns-then-count-s
returns-then-count-s c =
    count_fits _ _ (new_at c.new-cursor.ensures) (took false 4 _ c.next.ensures c.in_ok-count.was) c.if-count-s.true

pub returns : goal.returns
returns c =
    count_contradicts _ _ (new_at c.new-cursor.ensures) (took false 4 _ c.next.ensures c.in_ok-count.was)
    c.if-count-s.false c.into.ensures
