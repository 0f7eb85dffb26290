-- What undoing an operation does to the registers, what undoing the codes of a chain in order does, and the last step.
-- Assumes nothing.
use Rattle.std.specs.Prelude.{Option, Some, None, ℕ, ◌+◌, ◌-◌, ◌^◌, List, [], ◌∷◌, Bool, true, false, leb, ltb, eqb}
use Rattle.answer.specs.Test.{pick}
use Rattle.unwind_operation.specs.declared.Register.{Register}
use Rattle.unwind_operation.specs.declared.StackFrameOffset.{StackFrameOffset}
use Rattle.unwind_operation.specs.declared.StackFrameOffset.TheVariants.{RSP, FP}
use Rattle.unwind_operation.specs.declared.UnwindOperation.{UnwindOperation}
use Rattle.unwind_operation.specs.declared.UnwindOperation.TheVariants.{PushNonVolatile, Alloc, SetFPRegister, SaveNonVolatile, SaveXMM, Epilog, SaveXMM128, PushMachineFrame, Noop}
use Rattle.unwind_array.specs.Arrays.{Frame, ChainCode}
use Rattle.unwind_state.specs.State.{gpr, rsp, with_gpr, with_rsp, with_rip, with_xmm_low, with_xmm, Window, word_at}
use Rattle.unwind_state.specs.declared.State.{State}

-- what undoing comes to: registers to go on with (16.16), the caller's registers (16.26, 16.27), or 12 (16.7, 16.29)
pub data Undone : Type 0 where
  on : State → Undone
  caller : State → Undone
  lost : Undone

-- 16.29: an address, unless it leaves 64 bits
abbrev pub within : ℕ → (ℕ → Undone) → Undone
within a k = pick (ltb a (2 ^ 64)) (k a) lost

-- 16.29: an address less an offset, unless it falls below 0
abbrev pub less : ℕ → ℕ → (ℕ → Undone) → Undone
less a n k = pick (leb n a) (k (a - n)) lost

abbrev pub on_word : Option ℕ → (ℕ → Undone) → Undone
on_word (Some v) k = k v
on_word None k = lost

-- 16.7, 16.29: the stack word at an address, unless the window does not hold it
abbrev pub word : Window → ℕ → (ℕ → Undone) → Undone
word w a k = within a (λ b. on_word (word_at w b) k)

-- 11.6: the number of an XMM register: XMM `n` is register 17 + `n`
abbrev pub xmm_number : Register → ℕ
xmm_number r = r.0 - 17

-- 16.20 to 16.22: how far above its base a register is saved
abbrev pub place_of : StackFrameOffset → ℕ
place_of (RSP n) = n
place_of (FP n) = n

-- The base of a save: the registers when it is undone, and the frame of its info.
abbrev pub Base : Type 0
Base = State → Frame → (ℕ → Undone) → Undone

-- A rule for the base: the registers at the stop, and whether a set frame is among the undone codes, are known before anything is undone.
abbrev pub BaseRule : Type 0
BaseRule = State → Bool → Base

-- 16.23, 16.30: RSP, or the frame register less the frame offset where the info names a register, each as it is when the save is undone
abbrev pub base_when_undone : BaseRule
base_when_undone stop framed s f k = pick (eqb f.register 0) (k (rsp s)) (less (gpr s f.register) f.offset k)

-- 16.17: a push: the register takes the word at RSP, then RSP grows by 8
abbrev pub undo_push : Window → ℕ → State → Undone
undo_push w r s = word w (rsp s) (λ v. within (rsp (with_gpr s r v) + 8) (λ a. on (with_rsp (with_gpr s r v) a)))

-- 16.18: an alloc: RSP grows by its size
abbrev pub undo_alloc : ℕ → State → Undone
undo_alloc n s = within (rsp s + n) (λ a. on (with_rsp s a))

-- 16.19: a set frame: RSP is the frame register less the frame offset, register 0 included
abbrev pub undo_set_frame : Frame → State → Undone
undo_set_frame f s = less (gpr s f.register) f.offset (λ a. on (with_rsp s a))

-- 16.20: a save: the register takes the word at its place above the base
abbrev pub undo_save : Base → Window → Frame → ℕ → ℕ → State → Undone
undo_save base w f r n s = base s f (λ b. word w (b + n) (λ v. on (with_gpr s r v)))

-- 16.22: a save of the low half of an XMM register: the high half stays
abbrev pub undo_save_low : Base → Window → Frame → ℕ → ℕ → State → Undone
undo_save_low base w f x n s = base s f (λ b. word w (b + n) (λ v. on (with_xmm_low s x v)))

-- 16.21: a save of an XMM register: two words, the low one first
abbrev pub undo_save_xmm : Base → Window → Frame → ℕ → ℕ → State → Undone
undo_save_xmm base w f x n s =
    base s f (λ b. word w (b + n) (λ low. word w (b + n + 8) (λ high. on (with_xmm s x low high))))

-- 16.25, 16.27: a machine frame: RIP is at RSP, the old RSP 24 above it, and an error code lies below both. Nothing more is undone.
abbrev pub undo_machine_frame : Window → Bool → State → Undone
undo_machine_frame w code s =
    word w (rsp s + pick code 8 0) (λ rip.
    word w (rsp s + pick code 8 0 + 24) (λ old. caller (with_rip (with_rsp s old) rip)))

-- 16.16: what undoing an operation does; 16.24: an epilog and an operation without effect do nothing
unfoldable pub undo_of : Base → Window → Frame → UnwindOperation → State → Undone
undo_of base w f (PushNonVolatile r) s = undo_push w r.0 s
undo_of base w f (Alloc n) s = undo_alloc n s
undo_of base w f SetFPRegister s = undo_set_frame f s
undo_of base w f (SaveNonVolatile r o) s = undo_save base w f r.0 (place_of o) s
undo_of base w f (SaveXMM r o) s = undo_save_low base w f (xmm_number r) (place_of o) s
undo_of base w f (Epilog a b) s = on s
undo_of base w f (SaveXMM128 r o) s = undo_save_xmm base w f (xmm_number r) (place_of o) s
undo_of base w f (PushMachineFrame code) s = undo_machine_frame w code s
undo_of base w f Noop s = on s

-- 16.26: the last step: RIP is the word at RSP, and RSP grows by 8
unfoldable pub last_step : Window → State → Undone
last_step w s = word w (rsp s) (λ rip. within (rsp s + 8) (λ a. caller (with_rip (with_rsp s a) rip)))

-- 16.27: after the caller's registers are there nothing more is done
abbrev pub and_then : Undone → (State → Undone) → Undone
and_then (on s) k = k s
and_then (caller s) k = caller s
and_then lost k = lost

-- 16.16: codes in order, each by its own info's frame; 16.26: the last step after them
unfoldable pub undo_from : Base → Window → List ChainCode → State → Undone
undo_from base w [] s = last_step w s
undo_from base w (c ∷ cs) s = and_then (undo_of base w c.frame c.code.operation s) (undo_from base w cs)

abbrev pub is_set_frame : UnwindOperation → Bool
is_set_frame (PushNonVolatile r) = false
is_set_frame (Alloc n) = false
is_set_frame SetFPRegister = true
is_set_frame (SaveNonVolatile r o) = false
is_set_frame (SaveXMM r o) = false
is_set_frame (Epilog a b) = false
is_set_frame (SaveXMM128 r o) = false
is_set_frame (PushMachineFrame code) = false
is_set_frame Noop = false

-- whether a set frame is among codes
abbrev pub framed_by : List ChainCode → Bool
framed_by [] = false
framed_by (c ∷ cs) = pick (is_set_frame c.code.operation) true (framed_by cs)

-- 16.1: the codes to undo, from the registers at the stop
unfoldable pub unwind_of : BaseRule → Window → List ChainCode → State → Undone
unwind_of rule w cs s = undo_from (rule s (framed_by cs)) w cs s
