-- `unwind_undo::push` meets its contract.
-- Assumes nothing.
use Rattle.std.proofs.Common.{sym, ap, ◌∙◌, arith}
use Rattle.unwind_state.specs.State.{rsp}
use Rattle.unwind_undo.specs.Code.{on_of}
use Rattle.unwind_undo.proofs.Laws.{word_held, word_gone, pushed, push_on, push_beyond}
use Rattle.unwind_undo.proofs.push.Goals as goal

pub returns-in_err-value : goal.returns-in_err-value
returns-in_err-value c =
    let a = c.args in
    let s = a.state in
    let r = a.register.0 in
    let w = word_gone a.window.words.now a.window.base (rsp s) (pushed s r) (omega (arith, c.get_gpr.ensures)) c.word_above.ensures c.in_err-value.was
    in
    ap on_of c.from_residual.ensures ∙ sym w

pub returns-in_err-next : goal.returns-in_err-next
returns-in_err-next c =
    let a = c.args in
    let s = a.state in
    let r = a.register.0 in
    let w = word_held a.window.words.now a.window.base (rsp s) (pushed s r) (omega (arith, c.get_gpr.ensures)) c.word_above.ensures c.in_ok-value.was
    in
    ap on_of c.from_residual-in_err-next.ensures
    ∙ push_beyond s r _ c.in_ok-value.value w c.with_gpr-loaded.ensures (omega (arith, c.in_err-next.ensures))

pub returns : goal.returns
returns c =
    let a = c.args in
    let s = a.state in
    let r = a.register.0 in
    let w = word_held a.window.words.now a.window.base (rsp s) (pushed s r) (omega (arith, c.get_gpr.ensures)) c.word_above.ensures c.in_ok-value.was
    in
    push_on s r _ c.in_ok-value.value w c.with_gpr-loaded.ensures (omega (arith, c.in_ok-next.ensures)) (omega (arith, c.in_ok-next.ensures))
    c.with_gpr.ensures
