-- `unwind_info::handler` meets its contract: the address is there, or the field ends past the bytes.
-- Assumes nothing.
use Rattle.std.proofs.Common.{◌≡◌, ◌∙◌, false, Err, arith, rules}
use Rattle.cursor.proofs.Laws.{new_at, took, cut}
use Rattle.unwind_info.proofs.Laws.{handler_cut, handler_there}
use Rattle.unwind_info.proofs.handler.Goals as goal

pub returns-in_err-address : goal.returns-in_err-address
returns-in_err-address c =
    let k : c.from_residual.result ≡ Err c.in_err-address.field-0.0 = search rules in
    k ∙ handler_cut _ _ _ (new_at c.new-cursor.ensures) (cut false 4 _ c.next.ensures c.in_err-address.was)

pub overflow_sub-result : goal.overflow_sub-result
overflow_sub-result c =
    let f = took false 4 _ c.next.ensures c.in_ok-address.was in
    omega (arith, f.inside, f.past)

pub returns : goal.returns
returns c =
    handler_there _ _ _ (new_at c.new-cursor.ensures) (took false 4 _ c.next.ensures c.in_ok-address.was)
