-- How the answers of src/ stand for those of the definitions of `Undo`: the contracts cite these maps, and no definition does.
-- Assumes nothing.
use Rattle.std.specs.Prelude.{Option, Some, None, ℕ, ◌+◌, ◌-◌, ◌^◌, List, false, leb, ltb, eqb}
use Rattle.answer.specs.Test.{pick}
use Rattle.unwind_operation.specs.declared.UnwindOperation.{UnwindOperation}
use Rattle.unwind_array.specs.Arrays.{Frame}
use Rattle.unwind_state.specs.State.{gpr, rsp, Window}
use Rattle.unwind_state.specs.Code.{word_at_of}
use Rattle.unwind_state.specs.declared.State.{State}
use Rattle.unwind_undo.specs.Undo.{Undone, on, caller, lost, Base, base_when_undone, undo_of, last_step}
use Rattle.unwind_undo.specs.declared.Undone.{Undone as Answered}
use Rattle.unwind_undo.specs.declared.Undone.TheVariants.{On, Caller}

-- what undoing comes to, as the doors answer it
abbrev pub undo_in : Undone → Option Answered
undo_in (on s) = Some (On s)
undo_in (caller s) = Some (Caller s)
undo_in lost = None

-- what the registers that a private function answers stand for: those to go on with, or the caller's
abbrev pub on_of : Option State → Undone
on_of (Some s) = on s
on_of None = lost

abbrev pub caller_of : Option State → Undone
caller_of (Some s) = caller s
caller_of None = lost

abbrev pub window_of : List ℕ → ℕ → Window
window_of words base = record { base = base; words = words }

abbrev pub frame_at : ℕ → ℕ → Frame
frame_at register offset = record { register = register; offset = offset }

-- the stack word at an address that may leave 64 bits
unfoldable pub word_of : List ℕ → ℕ → ℕ → Option ℕ
word_of words base a = pick (ltb a (2 ^ 64)) (word_at_of words base a) None

-- what the place of a save counts from, unless it falls below 0
unfoldable pub base_of : ℕ → ℕ → State → Option ℕ
base_of register offset s =
    pick (eqb register 0) (Some (rsp s)) (pick (leb offset (gpr s register)) (Some (gpr s register - offset)) None)

abbrev pub on_place : {A : Type 0} → Option ℕ → A → (ℕ → A) → A
on_place (Some a) beyond f = f a
on_place None beyond f = beyond

-- the stack word at which a register is saved
unfoldable pub saved_of : ℕ → ℕ → ℕ → State → List ℕ → ℕ → Option ℕ
saved_of by register offset s words base = on_place (base_of register offset s) None (λ b. word_of words base (b + by))

-- the base of a save as it is in every step; it goes by nothing that is known before
abbrev pub base_here : State → Base
base_here s = base_when_undone s false

-- 16.17 to 16.25: what undoing an operation does, by its info's frame register and frame offset
unfoldable pub undo_operation_of : UnwindOperation → ℕ → ℕ → State → List ℕ → ℕ → Option Answered
undo_operation_of operation register offset s words base =
    undo_in (undo_of (base_here s) (window_of words base) (frame_at register offset) operation s)

-- 16.26: what the last step does
unfoldable pub last_step_of : State → List ℕ → ℕ → Option Answered
last_step_of s words base = undo_in (last_step (window_of words base) s)
