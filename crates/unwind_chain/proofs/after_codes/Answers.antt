-- `unwind_chain::after_codes` meets its contract: what follows the codes tells whether there is another info.
-- Assumes nothing.
use Rattle.std.proofs.Common.{◌≡◌, ◌∙◌, Err, rules}
use Rattle.unwind_chain.proofs.Next.{after_none, after_info, after_refused}
use Rattle.unwind_chain.proofs.after_codes.Goals as goal

pub returns-in_default : goal.returns-in_default
returns-in_default c = after_none _ _ _ c.in_default.not-Chained

pub returns-in_err-reached : goal.returns-in_err-reached
returns-in_err-reached c =
    let k : c.from_residual.result ≡ Err c.in_err-reached.field-0.0 = search rules in
    k ∙ after_refused _ _ _ c.in-Chained.is c.chained_info.ensures c.in_err-reached.was

pub returns : goal.returns
returns c = after_info _ _ _ c.in-Chained.is c.chained_info.ensures c.in_ok-reached.was c.cursor_at.ensures
