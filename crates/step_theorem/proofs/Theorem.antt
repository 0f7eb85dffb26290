-- Unwinding undoes the prolog: the theorem of `prolog_theorem` with the step itself as its subject, whatever the file, the opened data and the
-- address are.
-- Assumes nothing.
use Rattle.std.specs.Prelude.{Ok}
use mathlib.Core.Path.{◌≡◌, sym, ap, ◌∙◌}
use mathlib.Core.List.{List, [], ◌∷◌}
use mathlib.Core.Bool.{true}
use Prim.Native.Nat.{ℕ}
use Rattle.runtime_function.specs.declared.RuntimeFunction.{RuntimeFunction}
use Rattle.pe_mapping.specs.declared.Sections.{Sections}
use Rattle.exception_data.specs.declared.ExceptionData.{ExceptionData}
use Rattle.runtime_lookup.specs.Lookup.{find_function_of}
use Rattle.runtime_lookup.specs.declared.Holder.{Holder}
use Rattle.unwind_operation.specs.declared.UnwindCode.{UnwindCode}
use Rattle.unwind_codes.proofs.Theorems.{whole_registers}
use Rattle.unwind_codes.proofs.Theorems as codes
use Rattle.unwind_array.specs.Arrays.{joined_of}
use Rattle.unwind_chain.specs.Chain.{Link, Chain, chain, chain_of, info_limit, arrays_of_links, arrays_of}
use Rattle.unwind_chain.proofs.Walk.{Chains, last_info, more_infos, chain_told}
use Rattle.unwind_state.specs.declared.State.{State}
use Rattle.unwind_undo.specs.Distance.{Distance, distance_of}
use Rattle.unwind_step.specs.Step.{done_step, step_by, step_of}
use Rattle.unwind_step.proofs.Theorems.{step_there}
use Rattle.strict_prolog.specs.Strict.{strict}
use Rattle.prolog_machine.specs.Machine.{Machine, Entry, caller_of}
use Rattle.prolog_machine.specs.Stop.{Small, Sized, Entered, FreeStop, Reaches, Fits, ran_of, needed, Holds}
use Rattle.prolog_theorem.specs.Recovered.{Recovered}
use Rattle.prolog_theorem.proofs.Decoded.{AllInRange, EachInRange, in_range_codes_are_small}
use Rattle.prolog_theorem.proofs.Theorem.{unwinding_undoes_the_prolog, unwinding_recovers_what_was_kept}

-- ---- the codes of a chain that was read are small

same_range : (cs : List UnwindCode) → codes.AllInRange cs → AllInRange cs
same_range [] h = tt
same_range (c ∷ cs) h = (h.0, same_range cs h.1)

each_in_range : {s : List ℕ} {sections : Sections} {r : RuntimeFunction} {n : ℕ} (l : Link) (ls : List Link) → Chains s sections r n l ls
    → AllInRange l.codes × EachInRange (arrays_of_links ls)
each_in_range {s} l [] (last_info p h) = (same_range l.codes (whole_registers s l.place.offset l.info l.codes p.whole), tt)
each_in_range {s} {sections} {r} {n} l (m ∷ ms) (more_infos {e = e} p f h) =
    (same_range l.codes (whole_registers s l.place.offset l.info l.codes p.whole), each_in_range {r = e} {n = _} m ms h)

chain_small : (s : List ℕ) (sections : Sections) (r : RuntimeFunction) (c : Chain) → chain c ≡ chain_of s sections r
    → Small (joined_of (arrays_of c))
chain_small s sections r c e =
    let h = each_in_range c.found c.outer (chain_told s sections info_limit r 0 c e) in
    in_range_codes_are_small (arrays_of c) h.0 h.1

-- ---- the step

-- 16.12: how far an address is from the begin of the record that names the first info
abbrev pub distance_at : ℕ → Chain → Distance
distance_at address c = distance_of address c.found.place.begin

-- For any file, opened data and address: where the lookup finds a record whose chain is read and is strict, and a function with that prolog
-- was entered at `m` and is stopped at `n`, inside its prolog or after it and a body, the step gives the caller: its RIP and RSP, and every
-- register as it was at entry. The window holds the words that the prolog wrote for it, and no address left 64 bits on the way.
pub the_step_undoes_the_prolog :
    (file : List ℕ) (opened : ExceptionData) (address : ℕ) (h : Holder) (c : Chain) (entry : Entry) (m n : Machine) (words : List ℕ) (base : ℕ)
    → find_function_of file opened address ≡ Ok h
    → chain_of file opened.sections h.function ≡ chain c
    → strict (arrays_of c) ≡ true
    → Reaches entry (arrays_of c) (distance_at address c) m n
    → Holds (record { base = base; words = words }) n.memory (needed entry (ran_of (distance_at address c) (arrays_of c)) m)
    → step_of file opened address n.registers words base ≡ done_step (caller_of entry m)
the_step_undoes_the_prolog file opened address h c entry m n words base found read e r holds =
    step_there file opened address n.registers words base h c found read
    ∙ ap (step_by n.registers)
    (unwinding_undoes_the_prolog (arrays_of c) (distance_at address c) entry m n (record { base = base; words = words }) e
    (chain_small file opened.sections h.function c (sym read)) r.sized r.entered r.stop r.fits holds)

-- As in real code, where the body also changes registers that no code pushes or saves: the step accepts, RIP, RSP and every register that a code
-- pushed or saved are the caller's, and the others are as at the stop.
pub the_step_recovers_what_was_kept :
    (file : List ℕ) (opened : ExceptionData) (address : ℕ) (h : Holder) (c : Chain) (entry : Entry) (m n : Machine) (words : List ℕ) (base : ℕ)
    → find_function_of file opened address ≡ Ok h
    → chain_of file opened.sections h.function ≡ chain c
    → strict (arrays_of c) ≡ true
    → Sized m.registers
    → Entered entry (ran_of (distance_at address c) (arrays_of c))
    → FreeStop entry (arrays_of c) (distance_at address c) m n
    → Fits entry (ran_of (distance_at address c) (arrays_of c)) m
    → Holds (record { base = base; words = words }) n.memory (needed entry (ran_of (distance_at address c) (arrays_of c)) m)
    → (t : State) × (step_of file opened address n.registers words base ≡ done_step t)
    × Recovered entry (ran_of (distance_at address c) (arrays_of c)) m n t
the_step_recovers_what_was_kept file opened address h c entry m n words base found read e sized entered stop fits holds =
    let k = unwinding_recovers_what_was_kept (arrays_of c) (distance_at address c) entry m n (record { base = base; words = words }) e
    (chain_small file opened.sections h.function c (sym read)) sized entered stop fits holds in
    (k.0, step_there file opened address n.registers words base h c found read ∙ ap (step_by n.registers) k.1, k.2)
