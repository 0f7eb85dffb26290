-- One unwinding step, and the address of RIP in an image.
-- Assumes nothing.
use Rattle.std.specs.Prelude.{Ok, Err, Option, Some, None, ℕ, ◌-◌, ◌^◌, List, Bool, leb, ltb, eqb}
use Rattle.answer.specs.Answer.{on_ok, refuse_of, number_of, number_of_reason, not_found, stack}
use Rattle.answer.specs.Test.{pick}
use Rattle.answer.specs.declared.Refusal.{Refusal}
use Rattle.runtime_function.specs.declared.RuntimeFunction.{RuntimeFunction}
use Rattle.pe_mapping.specs.declared.Sections.{Sections}
use Rattle.exception_data.specs.declared.ExceptionData.{ExceptionData}
use Rattle.runtime_lookup.specs.Lookup.{find_function_of}
use Rattle.unwind_array.specs.Arrays.{ChainCode, joined_of}
use Rattle.unwind_chain.specs.Chain.{Chain, on_chain, chain_of, arrays_of}
use Rattle.unwind_state.specs.State.{Window}
use Rattle.unwind_state.specs.declared.State.{State}
use Rattle.unwind_undo.specs.Undo.{Undone, on, caller, lost, base_when_undone, last_step, unwind_of}
use Rattle.unwind_undo.specs.Distance.{distance_of, undone_of}
use Rattle.unwind_step.specs.declared.Stepped.{Stepped}

-- 16.9: RIP less the base of the image, if it is not below 0 and is below 2 ^ 32
unfoldable pub relative_address_of : ℕ → ℕ → Option ℕ
relative_address_of rip image = pick (leb image rip) (pick (ltb (rip - image) (2 ^ 32)) (Some (rip - image)) None) None

-- 16.3: a refusal leaves the registers as they were
abbrev pub refused_step : State → Refusal → Stepped
refused_step s k = record { answer = Err k; state = s }

abbrev pub done_step : State → Stepped
done_step t = record { answer = Ok tt; state = t }

-- 16.7, 16.29: what undoing comes to from these registers; a step never ends with registers to go on with
abbrev pub step_by : State → Undone → Stepped
step_by s (on t) = done_step t
step_by s (caller t) = done_step t
step_by s lost = refused_step s (refuse_of stack)

-- 16.12 to 16.15: the codes of a chain that are undone at an address
abbrev pub undone_at : ℕ → Chain → List ChainCode
undone_at address c = undone_of (distance_of address c.found.place.begin) (joined_of (arrays_of c))

-- 16.10, 16.16: a step at an address that a record holds: the whole chain is read, then its codes are undone
unfoldable pub found_of : List ℕ → Sections → RuntimeFunction → ℕ → State → List ℕ → ℕ → Stepped
found_of s sections r address state words base =
    on_chain (chain_of s sections r) (refused_step state) (λ c.
    step_by state (unwind_of base_when_undone (record { base = base; words = words }) (undone_at address c) state))

-- 16.11: at an address that no record holds the step is the last step alone
abbrev pub leaf_of : State → Window → Stepped
leaf_of state w = step_by state (last_step w state)

-- 9.6: no record holds the address
abbrev pub is_not_found : Refusal → Bool
is_not_found k = eqb (number_of k) (number_of_reason not_found)

-- 16.8, 16.10: a step: the lookup, then the chain, then the codes
unfoldable pub step_of : List ℕ → ExceptionData → ℕ → State → List ℕ → ℕ → Stepped
step_of s opened address state words base =
    on_ok (find_function_of s opened address)
    (λ k. pick (is_not_found k) (leaf_of state (record { base = base; words = words })) (refused_step state k))
    (λ h. found_of s opened.sections h.function address state words base)
