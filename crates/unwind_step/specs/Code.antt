-- How the answers of private functions stand for those of the definitions of `Step`: their contracts cite these maps, and no definition does.
-- Assumes nothing.
use Rattle.std.specs.Prelude.{Result, Ok, Err, Option, Some, None, ℕ, List, true}
use Rattle.answer.specs.Answer.{on_ok, refuse_of, stack}
use Rattle.answer.specs.Test.{pick}
use Rattle.answer.specs.declared.Refusal.{Refusal}
use Rattle.unwind_operation.specs.declared.UnwindCode.{UnwindCode}
use Rattle.unwind_chain.specs.declared.ChainCursor.{ChainCursor}
use Rattle.unwind_state.specs.declared.State.{State}
use Rattle.unwind_undo.specs.Distance.{distance_of, has_run}
use Rattle.unwind_undo.specs.Code.{undo_operation_of}
use Rattle.unwind_undo.specs.declared.Undone.{Undone}
use Rattle.unwind_undo.specs.declared.Undone.TheVariants.{On, Caller}
use Rattle.unwind_step.specs.Step.{refused_step, done_step}
use Rattle.unwind_step.specs.declared.Stepped.{Stepped}

-- the registers of the caller, or a refusal beside those that were given
abbrev pub stepped_of : State → Result State Refusal → Stepped
stepped_of s (Ok t) = done_step t
stepped_of s (Err k) = refused_step s k

-- what undoing came to, or that a stack word is out of reach
abbrev pub reached_of : Option Undone → Result Undone Refusal
reached_of (Some u) = Ok u
reached_of None = Err (refuse_of stack)

abbrev pub state_of : Undone → State
state_of (On t) = t
state_of (Caller t) = t

-- how a step ends, by what undoing came to
abbrev pub ended_of : Option Undone → Result State Refusal
ended_of u = on_ok (reached_of u) Err (λ v. Ok (state_of v))

-- what undoing a code of the cursor's info comes to
unfoldable pub code_undone_of : UnwindCode → ChainCursor → ℕ → ℕ → State → List ℕ → ℕ → Option Undone
code_undone_of c k begin address s words base =
    pick (pick k.found (has_run (distance_of address begin) c.code_offset) true)
    (undo_operation_of c.operation k.header.frame_register.0 k.header.frame_register_offset s words base)
    (Some (On s))
