-- What unwinding recovers after a body that also changes registers that no code pushes or saves, as real ones do.
-- Assumes nothing.
use Rattle.std.specs.Prelude.{◌≡◌, ◌≢◌, List, ℕ}
use Rattle.unwind_array.specs.Arrays.{ChainCode}
use Rattle.unwind_state.specs.State.{gpr, rsp}
use Rattle.unwind_state.specs.declared.State.{State}
use Rattle.prolog_machine.specs.Machine.{Machine, Entry, caller_of}
use Rattle.prolog_machine.specs.Stop.{In, NotIn, general_kept, xmm_kept, SameXmm}

-- 19.15: RIP, RSP and each register that a code pushes or saves are the caller's, and each other register is as it was at the stop
pub record Recovered (entry : Entry) (cs : List ChainCode) (m n : Machine) (t : State) : Type 0 where
  pub rip : t.rip ≡ (caller_of entry m).rip
  pub stack_pointer : rsp t ≡ rsp (caller_of entry m)
  pub general : (r : ℕ) → In r (general_kept cs) → gpr t r ≡ gpr (caller_of entry m) r
  pub general_left : (r : ℕ) → r ≢ 4 → NotIn r (general_kept cs) → gpr t r ≡ gpr n.registers r
  pub xmm : (x : ℕ) → In x (xmm_kept cs) → SameXmm t (caller_of entry m) x
  pub xmm_left : (x : ℕ) → NotIn x (xmm_kept cs) → SameXmm t n.registers x
