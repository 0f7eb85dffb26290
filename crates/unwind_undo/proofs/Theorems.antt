-- What is proved of undoing one operation and of the last step, for every input.
-- Assumes nothing.
use Rattle.std.specs.Prelude.{Option, None}
use mathlib.Core.Path.{◌≡◌, refl}
use mathlib.Core.List.{List}
use mathlib.Core.Bool.{Bool}
use Prim.Native.Nat.{ℕ}
use Rattle.answer.proofs.Unique.{same}
use Rattle.unwind_operation.specs.declared.UnwindOperation.{UnwindOperation}
use Rattle.unwind_operation.specs.declared.UnwindOperation.TheVariants.{PushNonVolatile, Alloc, SetFPRegister, SaveNonVolatile, SaveXMM, Epilog, SaveXMM128, PushMachineFrame, Noop}
use Rattle.unwind_array.specs.Arrays.{Frame}
use Rattle.unwind_state.specs.State.{Window}
use Rattle.unwind_state.specs.declared.State.{State}
use Rattle.unwind_undo.specs.Undo.{Undone, lost, base_when_undone, undo_of}
use Rattle.unwind_undo.specs.Code.{undo_in, undo_operation_of, last_step_of}
use Rattle.unwind_undo.specs.declared.Undone.{Undone as Answered}

-- The base of a save goes by nothing that is known before anything is undone: any stop and any answer to whether there is a set frame are
-- the same.
pub base_free : (stop other : State) (framed also : Bool) (w : Window) (f : Frame) (o : UnwindOperation) (s : State)
    → undo_of (base_when_undone stop framed) w f o s ≡ undo_of (base_when_undone other also) w f o s
unfolding undo_of
base_free stop other framed also w f (PushNonVolatile r) s = refl
base_free stop other framed also w f (Alloc n) s = refl
base_free stop other framed also w f SetFPRegister s = refl
base_free stop other framed also w f (SaveNonVolatile r o) s = refl
base_free stop other framed also w f (SaveXMM r o) s = refl
base_free stop other framed also w f (Epilog a b) s = refl
base_free stop other framed also w f (SaveXMM128 r o) s = refl
base_free stop other framed also w f (PushMachineFrame code) s = refl
base_free stop other framed also w f Noop s = refl

-- What is lost has no registers.
pub lost_given : (u : Undone) → u ≡ lost → undo_in u ≡ None
lost_given u e = rw e

-- Two answers that meet a promise of this crate are equal.
pub undo_operation_unique : (o : UnwindOperation) (register offset : ℕ) (s : State) (words : List ℕ) (base : ℕ) {r q : Option Answered}
    → r ≡ undo_operation_of o register offset s words base → q ≡ undo_operation_of o register offset s words base → r ≡ q
undo_operation_unique o register offset s words base = same

pub last_step_unique : (s : State) (words : List ℕ) (base : ℕ) {r q : Option Answered} → r ≡ last_step_of s words base → q ≡ last_step_of s words base
    → r ≡ q
last_step_unique s words base = same
