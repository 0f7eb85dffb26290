-- Unwinding undoes the prolog.
--
-- What a prolog does when it runs is `Machine` of prolog_machine, and a stop, a body and the words that tell the caller are its `Stop`: they
-- know nothing of unwinding. The step is `Undo` and `Distance` of unwind_step; the strict check is `Strict` of strict_prolog.
-- Assumes nothing.
use mathlib.Core.Path.{◌≡◌, refl, sym, ap, ◌∙◌}
use mathlib.Core.Bool.{true}
use mathlib.Core.List.{List, [], ◌∷◌}
use Prim.Native.Nat.{ℕ, ◌+◌, ◌%◌, ◌^◌, ◌<◌}
use Rattle.unwind_array.specs.Arrays.{Arrays, joined_of}
use Rattle.unwind_state.specs.State.{Window}
use Rattle.unwind_state.specs.declared.State.{State}
use Rattle.unwind_undo.specs.Undo.{Undone, caller, base_when_undone, unwind_of}
use Rattle.unwind_undo.specs.Distance.{Distance, whole, undone_of}
use Rattle.strict_prolog.specs.Strict.{strict}
use Rattle.prolog_machine.specs.Machine.{Memory, Machine, rsp_of, Entry, called, caller_of}
use Rattle.prolog_machine.specs.Stop.{Every, Sized, Small, ran_of, PastProlog, needed, written, entry_words, Fits}
use Rattle.prolog_machine.specs.Stop.{Entered, general_kept, xmm_kept, Same, Stop, inside, FreeStop, Reaches, Holds, Spans}
use Rattle.prolog_theorem.specs.Recovered.{Recovered}
use Rattle.prolog_theorem.proofs.Base.{base_at_stop}
use Rattle.prolog_theorem.proofs.Chain.{undoes, undoes_by, chain, serves_at_stop, recovers, past_kept, every_of, needed_kept, holds_agreed}
use Rattle.prolog_theorem.proofs.Windows.{spans_hold, needed_aligned, needed_low, window_of, window_spans}

-- A function whose codes are strict was entered at the machine `m`, by a call or by the processor, and is stopped at `n`: at any distance
-- inside its prolog, or after the prolog and a body. No address left 64 bits, and the window holds the stack words that tell the caller.
-- Then the step gives the caller: its RIP and RSP, and every general and XMM register as it was at entry.
pub unwinding_undoes_the_prolog :
    (a : Arrays) (d : Distance) (entry : Entry) (m n : Machine) (w : Window)
    → strict a ≡ true
    → Small (joined_of a)
    → Sized m.registers
    → Entered entry (ran_of d a)
    → Stop entry a d m n
    → Fits entry (ran_of d a) m
    → Holds w n.memory (needed entry (ran_of d a) m)
    → unwind_of base_when_undone w (undone_of d (joined_of a)) n.registers ≡ caller (caller_of entry m)
unwinding_undoes_the_prolog = undoes

-- In real code registers change that no code pushes or saves. There RIP, RSP and every register that a code pushed or saved are the caller's,
-- and every other register is as it was at the stop.
pub unwinding_recovers_what_was_kept :
    (a : Arrays) (d : Distance) (entry : Entry) (m n : Machine) (w : Window)
    → strict a ≡ true
    → Small (joined_of a)
    → Sized m.registers
    → Entered entry (ran_of d a)
    → FreeStop entry a d m n
    → Fits entry (ran_of d a) m
    → Holds w n.memory (needed entry (ran_of d a) m)
    → (t : State) × (unwind_of base_when_undone w (undone_of d (joined_of a)) n.registers ≡ caller t) × Recovered entry (ran_of d a) m n t
unwinding_recovers_what_was_kept = recovers

-- Past the prolog that is every register that any code of the chain pushes or saves.
pub past_the_prolog_all_is_kept :
    (a : Arrays) (d : Distance)
    → strict a ≡ true
    → Small (joined_of a)
    → PastProlog d a.found.prolog
    → (general_kept (ran_of d a) ≡ general_kept (joined_of a)) × (xmm_kept (ran_of d a) ≡ xmm_kept (joined_of a))
past_the_prolog_all_is_kept = past_kept

-- A function without unwind codes, a leaf, has its caller above the return address.
pub unwinding_a_leaf :
    (m n : Machine) (w : Window)
    → Sized m.registers
    → Same n m
    → rsp_of m + 8 < 2 ^ 64
    → Holds w n.memory (rsp_of m ∷ [])
    → unwind_of base_when_undone w [] n.registers ≡ caller (caller_of called m)
unfolding strict joined_of undone_of
unwinding_a_leaf m n w sized same fits holds = undoes none whole called m n w refl tt sized tt (inside same) fits holds
  where
    none : Arrays
    none = record { found = record { frame = record { register = 0; offset = 0 }; prolog = 0; codes = [] }; outer = [] }

-- A window as a driver has it serves: where RSP at entry is a multiple of 8, a part of the stack that spans the words holds them, since each
-- lies at a multiple of 8.
pub a_spanning_window_holds :
    (a : Arrays) (d : Distance) (entry : Entry) (m : Machine) (memory : Memory) (w : Window)
    → strict a ≡ true
    → Small (joined_of a)
    → Sized m.registers
    → Fits entry (ran_of d a) m
    → rsp_of m % 8 ≡ 0
    → Spans w memory (needed entry (ran_of d a) m)
    → Holds w memory (needed entry (ran_of d a) m)
a_spanning_window_holds a d entry m memory w e small sized fits e8 spans =
    spans_hold w memory (needed entry (ran_of d a) m) spans (needed_aligned a d entry m e small sized fits e8)

-- The theorem for such a window.
pub unwinding_from_a_spanning_window :
    (a : Arrays) (d : Distance) (entry : Entry) (m n : Machine) (w : Window)
    → strict a ≡ true
    → Small (joined_of a)
    → Reaches entry a d m n
    → rsp_of m % 8 ≡ 0
    → Spans w n.memory (needed entry (ran_of d a) m)
    → unwind_of base_when_undone w (undone_of d (joined_of a)) n.registers ≡ caller (caller_of entry m)
unwinding_from_a_spanning_window a d entry m n w e small r e8 spans =
    unwinding_undoes_the_prolog a d entry m n w e small r.sized r.entered r.stop r.fits
    (a_spanning_window_holds a d entry m n.memory w e small r.sized r.fits e8 spans)

-- For a walk over frames: the stack is read later, when newer frames have come and gone. It serves as long as they left what the prolog
-- wrote and the return address or machine frame.
pub a_later_memory_serves :
    (a : Arrays) (d : Distance) (entry : Entry) (m n : Machine) (later : Memory) (w : Window)
    → strict a ≡ true
    → Small (joined_of a)
    → Entered entry (ran_of d a)
    → Every (λ x. later x ≡ n.memory x) (written entry (ran_of d a) m)
    → Every (λ x. later x ≡ n.memory x) (entry_words entry m)
    → Holds w later (needed entry (ran_of d a) m)
    → Holds w n.memory (needed entry (ran_of d a) m)
a_later_memory_serves a d entry m n later w e small entered wrote own holds =
    holds_agreed w later n.memory (needed entry (ran_of d a) m) holds
    (needed_kept (λ x. later x ≡ n.memory x) a d entry m e small entered wrote own)

-- The theorem does not hang on one rule for the base of a save: that of the register at the stop serves as well.
pub unwinding_by_the_base_at_the_stop :
    (a : Arrays) (d : Distance) (entry : Entry) (m n : Machine) (w : Window)
    → strict a ≡ true
    → Small (joined_of a)
    → Sized m.registers
    → Entered entry (ran_of d a)
    → Stop entry a d m n
    → Fits entry (ran_of d a) m
    → Holds w n.memory (needed entry (ran_of d a) m)
    → unwind_of base_at_stop w (undone_of d (joined_of a)) n.registers ≡ caller (caller_of entry m)
unwinding_by_the_base_at_the_stop a d entry m n w e small sized entered stop fits holds =
    let c = chain a d e small in
    undoes_by base_at_stop a d entry m n w c sized entered stop fits holds (serves_at_stop entry a d m n c sized)

-- No other answer would be right: two runs of the same codes that stop at the same distance, with the same registers and the same memory, have
-- the same caller.
pub a_stop_determines_the_caller :
    (a : Arrays) (d : Distance) (entry entry' : Entry) (m m' n n' : Machine)
    → strict a ≡ true
    → Small (joined_of a)
    → Reaches entry a d m n
    → Reaches entry' a d m' n'
    → rsp_of m % 8 ≡ 0
    → rsp_of m' % 8 ≡ 0
    → n.registers ≡ n'.registers
    → ((x : ℕ) → n.memory x ≡ n'.memory x)
    → caller_of entry m ≡ caller_of entry' m'
a_stop_determines_the_caller a d entry entry' m m' n n' e small r r' e8 e8' same words =
    same_caller
    (sym (from entry m n (λ x. refl) r e8)
    ∙ ap (unwind_of base_when_undone (window_of n.memory (2 ^ 61)) (undone_of d (joined_of a))) same
    ∙ from entry' m' n' words r' e8')
  where
    same_caller : {s t : State} → ◌≡◌ {A = Undone} (caller s) (caller t) → s ≡ t
    same_caller h = cc

    agreed : (p : Machine) (xs : List ℕ) → ((x : ℕ) → n.memory x ≡ p.memory x) → Every (λ x. n.memory x ≡ p.memory x) xs
    agreed p xs h = every_of (λ x. n.memory x ≡ p.memory x) xs h

    from : (entry : Entry) (m p : Machine) → ((x : ℕ) → n.memory x ≡ p.memory x) → Reaches entry a d m p → rsp_of m % 8 ≡ 0
        → unwind_of base_when_undone (window_of n.memory (2 ^ 61)) (undone_of d (joined_of a)) p.registers ≡ caller (caller_of entry m)
    from entry m p agree r e8 =
        undoes a d entry m p (window_of n.memory (2 ^ 61)) e small r.sized r.entered r.stop r.fits
        (holds_agreed (window_of n.memory (2 ^ 61)) n.memory p.memory (needed entry (ran_of d a) m)
        (a_spanning_window_holds a d entry m n.memory (window_of n.memory (2 ^ 61)) e small r.sized r.fits e8
        (window_spans n.memory (2 ^ 61) (needed entry (ran_of d a) m) refl (needed_low a d entry m e small r.sized r.entered r.fits)))
        (agreed p (needed entry (ran_of d a) m) agree))
