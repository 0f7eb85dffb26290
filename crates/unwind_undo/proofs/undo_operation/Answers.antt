-- `unwind_undo::undo_operation` meets its contract: each arm is the case of the definition.
-- Assumes nothing.
use Rattle.std.proofs.Common.{sym, ap, ◌∙◌, ℕ, Some, arith}
use mathlib.Core.Logic.{inl, inr}
use Rattle.unwind_state.specs.State.{with_gpr, with_xmm_low, with_xmm}
use Rattle.unwind_state.specs.declared.State.{State}
use Rattle.unwind_undo.specs.Undo.{Undone, on, place_of, xmm_number, undo_of}
use Rattle.unwind_undo.specs.Code.{undo_in, undo_operation_of}
use Rattle.unwind_undo.specs.declared.Undone.TheVariants.{On}
use Rattle.unwind_undo.proofs.Laws.{saved_held, saved_gone, pair_held, pair_gone, pair_lost}
use Rattle.unwind_undo.proofs.undo_operation.Goals as goal

pub returns-in_err-undone-in-PushNonVolatile : goal.returns-in_err-undone-in-PushNonVolatile
unfolding undo_operation_of undo_of
returns-in_err-undone-in-PushNonVolatile c =
    simp c.in-PushNonVolatile.is (c.from_residual.ensures ∙ ap undo_in c.in_err-undone-in-PushNonVolatile.ensures)

pub returns-in_ok-undone-in-PushNonVolatile : goal.returns-in_ok-undone-in-PushNonVolatile
unfolding undo_operation_of undo_of
returns-in_ok-undone-in-PushNonVolatile c = simp c.in-PushNonVolatile.is (ap undo_in c.in_ok-undone-in-PushNonVolatile.ensures)

pub returns-in_err-undone-in-Alloc : goal.returns-in_err-undone-in-Alloc
unfolding undo_operation_of undo_of
returns-in_err-undone-in-Alloc c =
    simp c.in-Alloc.is (c.from_residual-in_err-undone-in-Alloc.ensures ∙ ap undo_in c.in_err-undone-in-Alloc.ensures)

pub returns-in_ok-undone-in-Alloc : goal.returns-in_ok-undone-in-Alloc
unfolding undo_operation_of undo_of
returns-in_ok-undone-in-Alloc c = simp c.in-Alloc.is (ap undo_in c.in_ok-undone-in-Alloc.ensures)

pub returns-in_err-undone-in-SetFPRegister : goal.returns-in_err-undone-in-SetFPRegister
unfolding undo_operation_of undo_of
returns-in_err-undone-in-SetFPRegister c =
    simp c.in-SetFPRegister.is (c.from_residual-in_err-undone-in-SetFPRegister.ensures ∙ ap undo_in c.in_err-undone-in-SetFPRegister.ensures)

pub returns-in_ok-undone-in-SetFPRegister : goal.returns-in_ok-undone-in-SetFPRegister
unfolding undo_operation_of undo_of
returns-in_ok-undone-in-SetFPRegister c = simp c.in-SetFPRegister.is (ap undo_in c.in_ok-undone-in-SetFPRegister.ensures)

pub returns-in_err-value-in-SaveNonVolatile : goal.returns-in_err-value-in-SaveNonVolatile
unfolding undo_operation_of undo_of
returns-in_err-value-in-SaveNonVolatile c =
    let a = c.args in
    let k : ℕ → Undone = λ v. on (with_gpr a.state c.in-SaveNonVolatile.r.0 v) in
    let e = saved_gone a.state a.window.words.now a.window.base a.frame.register.0 a.frame.offset (place_of c.in-SaveNonVolatile.place)
    c.bytes_of.ensures.place c.saved_word.ensures k c.in_err-value-in-SaveNonVolatile.was in
    simp c.in-SaveNonVolatile.is (c.from_residual-in_err-value-in-SaveNonVolatile.ensures ∙ sym (ap undo_in e))

pub returns-in_ok-value-in-SaveNonVolatile : goal.returns-in_ok-value-in-SaveNonVolatile
unfolding undo_operation_of undo_of
returns-in_ok-value-in-SaveNonVolatile c =
    let a = c.args in
    let k : ℕ → Undone = λ v. on (with_gpr a.state c.in-SaveNonVolatile.r.0 v) in
    let e = saved_held a.state a.window.words.now a.window.base a.frame.register.0 a.frame.offset (place_of c.in-SaveNonVolatile.place)
    c.bytes_of.ensures.place c.saved_word.ensures k c.in_ok-value-in-SaveNonVolatile.was in
    simp c.in-SaveNonVolatile.is (ap (λ (t : State). Some (On t)) c.with_gpr-undone.ensures ∙ sym (ap undo_in e))

pub returns-in_err-value-in-SaveXMM : goal.returns-in_err-value-in-SaveXMM
unfolding undo_operation_of undo_of
returns-in_err-value-in-SaveXMM c =
    let a = c.args in
    let k : ℕ → Undone = λ v. on (with_xmm_low a.state (xmm_number c.in-SaveXMM.r) v) in
    let e = saved_gone a.state a.window.words.now a.window.base a.frame.register.0 a.frame.offset (place_of c.in-SaveXMM.place)
    c.bytes_of-in-SaveXMM.ensures.place c.saved_word-in-SaveXMM.ensures k c.in_err-value-in-SaveXMM.was in
    simp c.in-SaveXMM.is (c.from_residual-in_err-value-in-SaveXMM.ensures ∙ sym (ap undo_in e))

pub returns-in_ok-value-in-SaveXMM : goal.returns-in_ok-value-in-SaveXMM
unfolding undo_operation_of undo_of
returns-in_ok-value-in-SaveXMM c =
    let a = c.args in
    let k : ℕ → Undone = λ v. on (with_xmm_low a.state (xmm_number c.in-SaveXMM.r) v) in
    let e = saved_held a.state a.window.words.now a.window.base a.frame.register.0 a.frame.offset (place_of c.in-SaveXMM.place)
    c.bytes_of-in-SaveXMM.ensures.place c.saved_word-in-SaveXMM.ensures k c.in_ok-value-in-SaveXMM.was in
    simp c.in-SaveXMM.is
    (ap (λ (t : State). Some (On t))
    (c.with_xmm_low-undone.ensures ∙ ap (λ n. with_xmm_low a.state n c.in_ok-value-in-SaveXMM.value) c.xmm_number.ensures)
    ∙ sym (ap undo_in e))

pub returns-in_err-low-in-SaveXMM128 : goal.returns-in_err-low-in-SaveXMM128
unfolding undo_operation_of undo_of
returns-in_err-low-in-SaveXMM128 c =
    let a = c.args in
    let k : ℕ → ℕ → Undone = λ low high. on (with_xmm a.state (xmm_number c.in-SaveXMM128.r) low high) in
    let e = pair_gone a.state a.window.words.now a.window.base a.frame.register.0 a.frame.offset (place_of c.in-SaveXMM128.place)
    c.bytes_of-by.ensures.place c.saved_word-in-SaveXMM128.ensures k c.in_err-low-in-SaveXMM128.was in
    simp c.in-SaveXMM128.is (c.from_residual-in_err-low-in-SaveXMM128.ensures ∙ sym (ap undo_in e))

pub returns-in_err-high-in-SaveXMM128 : goal.returns-in_err-high-in-SaveXMM128
unfolding undo_operation_of undo_of
returns-in_err-high-in-SaveXMM128 c =
    let a = c.args in
    let k : ℕ → ℕ → Undone = λ low high. on (with_xmm a.state (xmm_number c.in-SaveXMM128.r) low high) in
    let e = pair_lost a.state a.window.words.now a.window.base a.frame.register.0 a.frame.offset (place_of c.in-SaveXMM128.place)
    c.bytes_of-by.ensures.place c.saved_word-in-SaveXMM128.ensures k c.in_ok-low-in-SaveXMM128.was (omega (arith, c.bytes_of-by.ensures.place))
    c.saved_word-in-SaveXMM128-2.ensures c.in_err-high-in-SaveXMM128.was in
    simp c.in-SaveXMM128.is (c.from_residual-in_err-high-in-SaveXMM128.ensures ∙ sym (ap undo_in e))

pub returns-in_ok-high-in-SaveXMM128 : goal.returns-in_ok-high-in-SaveXMM128
unfolding undo_operation_of undo_of
returns-in_ok-high-in-SaveXMM128 c =
    let a = c.args in
    let k : ℕ → ℕ → Undone = λ low high. on (with_xmm a.state (xmm_number c.in-SaveXMM128.r) low high) in
    let e = pair_held a.state a.window.words.now a.window.base a.frame.register.0 a.frame.offset (place_of c.in-SaveXMM128.place)
    c.bytes_of-by.ensures.place c.saved_word-in-SaveXMM128.ensures k c.in_ok-low-in-SaveXMM128.was (omega (arith, c.bytes_of-by.ensures.place))
    c.saved_word-in-SaveXMM128-2.ensures c.in_ok-high-in-SaveXMM128.was in
    simp c.in-SaveXMM128.is
    (ap (λ (t : State). Some (On t))
    (c.with_xmm-undone.ensures
    ∙ ap (λ n. with_xmm a.state n c.in_ok-low-in-SaveXMM128.low c.in_ok-high-in-SaveXMM128.high) c.xmm_number-in-SaveXMM128.ensures)
    ∙ sym (ap undo_in e))

pub returns-in_err-machine_frame-in-PushMachineFrame : goal.returns-in_err-machine_frame-in-PushMachineFrame
unfolding undo_operation_of undo_of
returns-in_err-machine_frame-in-PushMachineFrame c =
    simp c.in-PushMachineFrame.is
    (c.from_residual-in_err-machine_frame-in-PushMachineFrame.ensures ∙ ap undo_in c.in_err-machine_frame-in-PushMachineFrame.ensures)

pub returns-in-PushMachineFrame : goal.returns-in-PushMachineFrame
unfolding undo_operation_of undo_of
returns-in-PushMachineFrame c = simp c.in-PushMachineFrame.is (ap undo_in c.in_ok-machine_frame-in-PushMachineFrame.ensures)

pub returns-in-Epilog : goal.returns-in-Epilog
unfolding undo_operation_of undo_of
returns-in-Epilog c = elim c.in-Epilog.is [ inl e ↦ let q = e.2 in simp q | inr e ↦ simp e ]
