-- `unwind_undo::last_step` meets its contract.
-- Assumes nothing.
use Rattle.std.proofs.Common.{◌≡◌, sym, ap, ◌∙◌, ℕ, ◌+◌, ◌^◌, ◌≤◌, ◌<◌, Some, arith}
use Rattle.unwind_state.specs.State.{rsp, with_rsp, with_rip}
use Rattle.unwind_state.specs.declared.State.{State}
use Rattle.unwind_undo.specs.Undo.{Undone, caller, within, last_step}
use Rattle.unwind_undo.specs.Code.{undo_in, last_step_of}
use Rattle.unwind_undo.specs.declared.Undone.TheVariants.{Caller}
use Rattle.unwind_undo.proofs.Laws.{word_held, word_gone, sum_there, sum_beyond}
use Rattle.unwind_undo.proofs.last_step.Goals as goal

-- the caller's registers
abbrev there : State → ℕ → ℕ → Undone
there s rip a = caller (with_rip (with_rsp s a) rip)

abbrev stepped : State → ℕ → Undone
stepped s rip = within (rsp s + 8) (there s rip)

pub returns-in_err-rip : goal.returns-in_err-rip
unfolding last_step_of last_step
returns-in_err-rip c =
    let a = c.args in
    let s = a.state in
    let w = word_gone a.window.words.now a.window.base (rsp s) (stepped s) (omega (arith, c.get_gpr-rsp.ensures)) c.word_above.ensures c.in_err-rip.was
    in
    c.from_residual.ensures ∙ sym (ap undo_in w)

pub returns-in_err-next : goal.returns-in_err-next
unfolding last_step_of last_step
returns-in_err-next c =
    let a = c.args in
    let s = a.state in
    let w = word_held a.window.words.now a.window.base (rsp s) (stepped s) (omega (arith, c.get_gpr-rsp.ensures)) c.word_above.ensures c.in_ok-rip.was in
    let h : 2 ^ 64 ≤ rsp s + 8 = omega (arith, c.in_err-next.ensures, c.get_gpr-rsp.ensures) in
    c.from_residual-in_err-next.ensures ∙ sym (ap undo_in (w ∙ sum_beyond _ (there s c.in_ok-rip.rip) h))

pub returns : goal.returns
unfolding last_step_of last_step
returns c =
    let a = c.args in
    let s = a.state in
    let w = word_held a.window.words.now a.window.base (rsp s) (stepped s) (omega (arith, c.get_gpr-rsp.ensures)) c.word_above.ensures c.in_ok-rip.was in
    let h : rsp s + 8 < 2 ^ 64 = omega (arith, c.in_ok-next.ensures, c.get_gpr-rsp.ensures) in
    let e : rsp s + 8 ≡ c.in_ok-next.next = omega (arith, c.in_ok-next.ensures, c.get_gpr-rsp.ensures) in
    ap (λ (t : State). Some (Caller t)) (c.with_rip.ensures ∙ ap (λ (t : State). with_rip t c.in_ok-rip.rip) c.with_gpr.ensures)
    ∙ sym (ap undo_in (w ∙ sum_there _ (there s c.in_ok-rip.rip) h ∙ ap (there s c.in_ok-rip.rip) e))
