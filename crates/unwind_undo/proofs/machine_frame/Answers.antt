-- `unwind_undo::machine_frame` meets its contract.
-- Assumes nothing.
use Rattle.std.proofs.Common.{◌≡◌, sym, ap, ◌∙◌, ℕ, ◌+◌, Bool, List, arith}
use Rattle.answer.specs.Test.{pick}
use Rattle.unwind_state.specs.State.{rsp, with_rsp, with_rip}
use Rattle.unwind_state.specs.declared.State.{State}
use Rattle.unwind_undo.specs.Undo.{Undone, caller, word}
use Rattle.unwind_undo.specs.Code.{caller_of, window_of}
use Rattle.unwind_undo.proofs.Laws.{word_held, word_gone}
use Rattle.unwind_undo.proofs.machine_frame.Goals as goal
use Rattle.unwind_undo.proofs.machine_frame.Goals.{then-code, else-code}

-- the caller's registers
abbrev there : State → ℕ → ℕ → Undone
there s rip old = caller (with_rip (with_rsp s old) rip)

-- where RIP is
abbrev found : Bool → State → ℕ
found code s = rsp s + pick code 8 0

abbrev framed : Bool → State → List ℕ → ℕ → ℕ → Undone
framed code s words base rip = word (window_of words base) (found code s + 24) (there s rip)

pub returns-in_err-rip : goal.returns-in_err-rip
returns-in_err-rip c =
    let s = c.args.state in
    let code = c.args.code in
    let words = c.args.window.words.now in
    let base = c.args.window.base in
    let by : c.if-code.by ≡ pick code 8 0 =
    elim c.if-code.branch [ then-code w ↦ rw w.if-code.true w.by-is | else-code w ↦ rw w.if-code.false w.by-is ] in
    let e = word_gone words base (found code s) (framed code s words base) (omega (arith, by, c.get_gpr-rsp.ensures)) c.word_above.ensures
    c.in_err-rip.was in
    ap caller_of c.from_residual.ensures ∙ sym e

pub returns-in_err-old : goal.returns-in_err-old
returns-in_err-old c =
    let s = c.args.state in
    let code = c.args.code in
    let words = c.args.window.words.now in
    let base = c.args.window.base in
    let rip = c.in_ok-rip.rip in
    let by : c.if-code.by ≡ pick code 8 0 =
    elim c.if-code.branch [ then-code w ↦ rw w.if-code.true w.by-is | else-code w ↦ rw w.if-code.false w.by-is ] in
    let e = word_held words base (found code s) (framed code s words base) (omega (arith, by, c.get_gpr-rsp.ensures)) c.word_above.ensures
    c.in_ok-rip.was in
    let f = word_gone words base (found code s + 24) (there s rip) (omega (arith, by, c.get_gpr-rsp.ensures)) c.word_above-2.ensures
    c.in_err-old.was in
    ap caller_of c.from_residual-in_err-old.ensures ∙ sym (e ∙ f)

pub returns : goal.returns
returns c =
    let s = c.args.state in
    let code = c.args.code in
    let words = c.args.window.words.now in
    let base = c.args.window.base in
    let rip = c.in_ok-rip.rip in
    let by : c.if-code.by ≡ pick code 8 0 =
    elim c.if-code.branch [ then-code w ↦ rw w.if-code.true w.by-is | else-code w ↦ rw w.if-code.false w.by-is ] in
    let e = word_held words base (found code s) (framed code s words base) (omega (arith, by, c.get_gpr-rsp.ensures)) c.word_above.ensures
    c.in_ok-rip.was in
    let f = word_held words base (found code s + 24) (there s rip) (omega (arith, by, c.get_gpr-rsp.ensures)) c.word_above-2.ensures
    c.in_ok-old.was in
    ap caller (c.with_rip.ensures ∙ ap (λ (t : State). with_rip t rip) c.with_gpr.ensures) ∙ sym (e ∙ f)
