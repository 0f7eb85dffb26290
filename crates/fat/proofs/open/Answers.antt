-- `fat::open` meets its contract: the first member that is refused is the answer; if there is none, it is the count.
-- Assumes nothing.
use Rattle.std.proofs.Common.{◌≡◌, sym, ◌∙◌, ◌+◌, ◌*◌, Err, arith, rules}
use Rattle.fat.proofs.Laws.{opened_refused, opened_stop, opened_all}
use Rattle.fat.proofs.open.Goals as goal

pub returns-in_err-members : goal.returns-in_err-members
returns-in_err-members c =
    let k : c.from_residual.result ≡ Err c.in_err-members.field-0.0 = search rules in
    k ∙ opened_refused _ (sym c.in_err-members.was ∙ c.header.ensures)

pub returns-in_err-read : goal.returns-in_err-read
returns-in_err-read c =
    let k : c.from_residual-in_err-read.result ≡ Err c.in_err-read.field-0.0 = search rules in
    let e : 8 + 20 * c.loop-index.index ≡ 8 + c.loop-index.index * 20 = omega arith in
    k ∙ opened_stop _ (sym c.in_ok-members.was ∙ c.header.ensures) _ c.loop-index.invariant (omega arith)
    (sym c.in_err-read.was ∙ rw e at c.read.ensures)

pub returns : goal.returns
returns c =
    opened_all _ (sym c.in_ok-members.was ∙ c.header.ensures) _ c.loop-index.invariant (omega arith)
