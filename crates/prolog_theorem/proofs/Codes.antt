-- Codes of a chain whose infos agree on the frame, as acts: running, undoing, and all that a stop speaks of, are those of the acts.
-- Assumes nothing.
use mathlib.Core.Path.{◌≡◌, refl, sym, ap, ◌∙◌}
use mathlib.Core.Logic.{◌⊎◌, ⊎_elim}
use mathlib.Core.Bool.{Bool, true, false}
use mathlib.Core.List.{List, [], ◌∷◌, ◌++◌}
use Prim.Native.Nat.{ℕ, ◌+◌, ◌-◌, ◌*◌}
use native.Mathlib.Omega.{arith}
use Rattle.answer.specs.Test.{pick}
use Rattle.unwind_operation.specs.declared.UnwindOperation.{UnwindOperation}
use Rattle.unwind_operation.specs.declared.UnwindOperation.TheVariants.{PushNonVolatile, Alloc, SetFPRegister, SaveNonVolatile, SaveXMM}
use Rattle.unwind_operation.specs.declared.UnwindOperation.TheVariants.{Epilog, SaveXMM128, PushMachineFrame, Noop}
use Rattle.unwind_array.specs.Arrays.{Frame, ChainCode}
use Rattle.unwind_state.specs.State.{Window}
use Rattle.unwind_state.specs.declared.State.{State}
use Rattle.unwind_undo.specs.Undo.{Undone, on, caller, lost, Base, place_of, xmm_number, undo_of, undo_from, and_then, is_set_frame, framed_by}
use Rattle.strict_prolog.specs.Strict.{strict_kind}
use Rattle.prolog_machine.specs.Machine.{Machine, rsp_of, Entry, called, interrupted, error_bytes, push_frame, run_one, run}
use Rattle.prolog_machine.specs.Stop.{Every, NotIn, needed_with, needed, frame_words, written_by, written, entry_words, FitsOne}
use Rattle.prolog_machine.specs.Stop.{Fits, machine_frame, machine_frames, Entered, keeps_general, general_kept, keeps_xmm, xmm_kept}
use Rattle.prolog_theorem.proofs.Acts.{Act, push, alloc, frame, save, save_xmm, trap, acts, framed, owed, owed_xmm, Good, ActsFit}
use Rattle.prolog_theorem.proofs.Words.{needs}
use Rattle.prolog_theorem.proofs.Back.{undo_acts, Ends}

-- the acts of operations: those without effect, and saves of half an XMM register, are left out
abbrev pub act_of : UnwindOperation → List Act → List Act
act_of (PushNonVolatile r) cs = push r.0 ∷ cs
act_of (Alloc n) cs = alloc n ∷ cs
act_of SetFPRegister cs = frame ∷ cs
act_of (SaveNonVolatile r o) cs = save r.0 (place_of o) ∷ cs
act_of (SaveXMM r o) cs = cs
act_of (Epilog x y) cs = cs
act_of (SaveXMM128 r o) cs = save_xmm (xmm_number r) (place_of o) ∷ cs
act_of (PushMachineFrame e) cs = trap e ∷ cs
act_of Noop cs = cs

abbrev pub acts_in : List UnwindOperation → List Act
acts_in [] = []
acts_in (o ∷ os) = act_of o (acts_in os)

abbrev pub ops_of : List ChainCode → List UnwindOperation
ops_of [] = []
ops_of (c ∷ cs) = c.code.operation ∷ ops_of cs

abbrev pub acts_of : List ChainCode → List Act
acts_of cs = acts_in (ops_of cs)

-- all of one frame, and of strict kinds
abbrev pub Plain : Frame → List ChainCode → Type 0
Plain f [] = Unit {0}
Plain f (c ∷ cs) = (c.frame ≡ f) × (strict_kind c.code.operation ≡ true) × Plain f cs

absurd_kind : {A : Type 0} → ◌≡◌ {A = Bool} false true → A
absurd_kind e = let z : ◌≡◌ {A = ℕ} 0 1 = cc in absurd (omega arith)

-- ---- running

one_run : (entry : Entry) (f : Frame) (o : UnwindOperation) (xs : List Act) (m : Machine) → strict_kind o ≡ true
    → run_one entry f o (acts entry f xs m) ≡ acts entry f (act_of o xs) m
one_run entry f (PushNonVolatile r) xs m h = refl
one_run entry f (Alloc n) xs m h = refl
one_run entry f SetFPRegister xs m h = refl
one_run entry f (SaveNonVolatile r o) xs m h = refl
one_run entry f (SaveXMM r o) xs m h = absurd_kind h
one_run entry f (Epilog x y) xs m h = refl
one_run entry f (SaveXMM128 r o) xs m h = refl
one_run entry f (PushMachineFrame e) xs m h = refl
one_run entry f Noop xs m h = absurd_kind h

pub run_is : (entry : Entry) (f : Frame) (cs : List ChainCode) (m : Machine) → Plain f cs → run entry cs m ≡ acts entry f (acts_of cs) m
run_is entry f [] m h = refl
run_is entry f (c ∷ cs) m h =
    ap (λ g. run_one entry g c.code.operation (run entry cs m)) h.0
    ∙ ap (run_one entry f c.code.operation) (run_is entry f cs m h.2)
    ∙ one_run entry f c.code.operation (acts_of cs) m h.1

-- ---- undoing

then_congr : (u : Undone) (k k' : State → Undone) → ((s : State) → k s ≡ k' s) → and_then u k ≡ and_then u k'
then_congr (on s) k k' h = h s
then_congr (caller s) k k' h = refl
then_congr lost k k' h = refl

one_undo : (base : Base) (w : Window) (f : Frame) (o : UnwindOperation) (xs : List Act) (s : State) → strict_kind o ≡ true
    → and_then (undo_of base w f o s) (undo_acts base w f xs) ≡ undo_acts base w f (act_of o xs) s
unfolding undo_of
one_undo base w f (PushNonVolatile r) xs s h = refl
one_undo base w f (Alloc n) xs s h = refl
one_undo base w f SetFPRegister xs s h = refl
one_undo base w f (SaveNonVolatile r o) xs s h = refl
one_undo base w f (SaveXMM r o) xs s h = absurd_kind h
one_undo base w f (Epilog x y) xs s h = refl
one_undo base w f (SaveXMM128 r o) xs s h = refl
one_undo base w f (PushMachineFrame e) xs s h = refl
one_undo base w f Noop xs s h = absurd_kind h

pub undo_is : (base : Base) (w : Window) (f : Frame) (cs : List ChainCode) (s : State) → Plain f cs
    → undo_from base w cs s ≡ undo_acts base w f (acts_of cs) s
unfolding undo_from
undo_is base w f [] s h = refl
undo_is base w f (c ∷ cs) s h =
    ap (λ g. and_then (undo_of base w g c.code.operation s) (undo_from base w cs)) h.0
    ∙ then_congr (undo_of base w f c.code.operation s) (undo_from base w cs) (undo_acts base w f (acts_of cs)) (λ t. undo_is base w f cs t h.2)
    ∙ one_undo base w f c.code.operation (acts_of cs) s h.1

-- ---- words

one_needed : (entry : Entry) (f : Frame) (o : UnwindOperation) (xs : List Act) (m : Machine) → strict_kind o ≡ true
    → needed_with entry o (acts entry f xs m) (needs entry f xs m) ≡ needs entry f (act_of o xs) m
one_needed entry f (PushNonVolatile r) xs m h = refl
one_needed entry f (Alloc n) xs m h = refl
one_needed entry f SetFPRegister xs m h = refl
one_needed entry f (SaveNonVolatile r o) xs m h = refl
one_needed entry f (SaveXMM r o) xs m h = absurd_kind h
one_needed entry f (Epilog x y) xs m h = refl
one_needed entry f (SaveXMM128 r o) xs m h = refl
one_needed entry f (PushMachineFrame e) xs m h = refl
one_needed entry f Noop xs m h = absurd_kind h

pub needed_is : (entry : Entry) (f : Frame) (cs : List ChainCode) (m : Machine) → Plain f cs
    → needed entry cs m ≡ needs entry f (acts_of cs) m
needed_is entry f [] m h = refl
needed_is entry f (c ∷ cs) m h =
    ap (λ p. needed_with entry c.code.operation p (needed entry cs m)) (run_is entry f cs m h.2)
    ∙ ap (needed_with entry c.code.operation (acts entry f (acts_of cs) m)) (needed_is entry f cs m h.2)
    ∙ one_needed entry f c.code.operation (acts_of cs) m h.1

-- the words that acts write
abbrev pub written_in : Entry → Act → Machine → List ℕ
written_in entry (push r) p = (rsp_of p - 8) ∷ []
written_in entry (alloc n) p = []
written_in entry frame p = []
written_in entry (save r o) p = (rsp_of p + o) ∷ []
written_in entry (save_xmm x o) p = (rsp_of p + o) ∷ (rsp_of p + o + 8) ∷ []
written_in called (trap e) p = frame_words e (rsp_of (push_frame called e p))
written_in (interrupted x) (trap e) p = []

abbrev pub writes : Entry → Frame → List Act → Machine → List ℕ
writes entry f [] m = []
writes entry f (c ∷ cs) m = written_in entry c (acts entry f cs m) ++ writes entry f cs m

one_written : (entry : Entry) (f : Frame) (o : UnwindOperation) (xs : List Act) (m : Machine) → strict_kind o ≡ true
    → written_by entry o (acts entry f xs m) ++ writes entry f xs m ≡ writes entry f (act_of o xs) m
one_written entry f (PushNonVolatile r) xs m h = refl
one_written entry f (Alloc n) xs m h = refl
one_written entry f SetFPRegister xs m h = refl
one_written entry f (SaveNonVolatile r o) xs m h = refl
one_written entry f (SaveXMM r o) xs m h = absurd_kind h
one_written entry f (Epilog x y) xs m h = refl
one_written entry f (SaveXMM128 r o) xs m h = refl
one_written called f (PushMachineFrame e) xs m h = refl
one_written (interrupted x) f (PushMachineFrame e) xs m h = refl
one_written entry f Noop xs m h = absurd_kind h

pub written_is : (entry : Entry) (f : Frame) (cs : List ChainCode) (m : Machine) → Plain f cs
    → written entry cs m ≡ writes entry f (acts_of cs) m
written_is entry f [] m h = refl
written_is entry f (c ∷ cs) m h =
    ap (λ p. written_by entry c.code.operation p ++ written entry cs m) (run_is entry f cs m h.2)
    ∙ ap (λ r. written_by entry c.code.operation (acts entry f (acts_of cs) m) ++ r) (written_is entry f cs m h.2)
    ∙ one_written entry f c.code.operation (acts_of cs) m h.1

-- what tells the caller was written by the prolog or was there at entry
pub kept_words : (P : ℕ → Type 0) (entry : Entry) (f : Frame) (mf : Bool) (xs : List Act) (m : Machine) → Good f.register mf xs
    → Ends entry xs → Every P (writes entry f xs m) → Every P (entry_words entry m) → Every P (needs entry f xs m)
kept_words P called f mf [] m g en h k = k
kept_words P (interrupted x) f mf [] m g en h k = absurd en
kept_words P entry f mf (push r ∷ cs) m g en h k = (h.0, kept_words P entry f mf cs m g.3 en h.1 k)
kept_words P entry f mf (alloc n ∷ cs) m g en h k = kept_words P entry f mf cs m g.1 en h k
kept_words P entry f mf (frame ∷ cs) m g en h k = kept_words P entry f mf cs m g.2 en h k
kept_words P entry f mf (save r o ∷ cs) m g en h k = (h.0, kept_words P entry f mf cs m g.4 en h.1 k)
kept_words P entry f mf (save_xmm x o ∷ cs) m g en h k =
    (h.0, (h.1.0, kept_words P entry f mf cs m g.3 en h.1.1 k))
kept_words P called f mf (trap true ∷ cs) m g en h k =
    let a : ℕ = rsp_of (push_frame called true (acts called f cs m)) in
    let e : a + 8 + 24 ≡ a + 32 = omega arith in
    (h.1.0, (rw e h.1.1.1.1.0, tt))
kept_words P called f mf (trap false ∷ cs) m g en h k =
    let a : ℕ = rsp_of (push_frame called false (acts called f cs m)) in
    let e : a + 0 ≡ a = omega arith in
    (rw e h.0, (rw e h.1.1.1.0, tt))
kept_words P (interrupted x) f mf (trap e ∷ cs) m g en h k = rw (g.0, ← en) (found x k)
  where
    found : (x : Bool) → Every P (frame_words x (rsp_of m)) → P (rsp_of m + error_bytes x) × (P (rsp_of m + error_bytes x + 24) × Unit {0})
    found true k =
        let e : rsp_of m + 8 + 24 ≡ rsp_of m + 32 = omega arith in
        (k.1.0, (rw e k.1.1.1.1.0, tt))
    found false k =
        let e : rsp_of m + 0 ≡ rsp_of m = omega arith in
        (rw e k.0, (rw e k.1.1.1.0, tt))

-- ---- no address leaves 64 bits

one_fits : (entry : Entry) (f : Frame) (o : UnwindOperation) (xs : List Act) (m : Machine) → FitsOne entry f o (acts entry f xs m)
    → ActsFit entry f xs m → ActsFit entry f (act_of o xs) m
one_fits entry f (PushNonVolatile r) xs m h k = (h, k)
one_fits entry f (Alloc n) xs m h k = (h, k)
one_fits entry f SetFPRegister xs m h k = (h, k)
one_fits entry f (SaveNonVolatile r o) xs m h k = (h, k)
one_fits entry f (SaveXMM r o) xs m h k = k
one_fits entry f (Epilog x y) xs m h k = k
one_fits entry f (SaveXMM128 r o) xs m h k = (h, k)
one_fits called f (PushMachineFrame e) xs m h k = (h, k)
one_fits (interrupted x) f (PushMachineFrame e) xs m h k = (h, k)
one_fits entry f Noop xs m h k = k

pub fits_is : (entry : Entry) (f : Frame) (cs : List ChainCode) (m : Machine) → Plain f cs → Fits entry cs m
    → ActsFit entry f (acts_of cs) m
fits_is entry f [] m h k = k
fits_is entry f (c ∷ cs) m h k =
    one_fits entry f c.code.operation (acts_of cs) m (rw (h.0, run_is entry f cs m h.2) at k.0) (fits_is entry f cs m h.2 k.1)

-- ---- entry

ends_called : (xs : List Act) → Ends called xs
ends_called [] = tt
ends_called (push r ∷ cs) = ends_called cs
ends_called (alloc n ∷ cs) = ends_called cs
ends_called (frame ∷ cs) = ends_called cs
ends_called (save r o ∷ cs) = ends_called cs
ends_called (save_xmm x o ∷ cs) = ends_called cs
ends_called (trap e ∷ cs) = tt

one_ends : (x : Bool) (o : UnwindOperation) (bs : List Bool) (xs : List Act) → machine_frame o bs ≡ x ∷ []
    → (bs ≡ x ∷ [] → Ends (interrupted x) xs) → Ends (interrupted x) (act_of o xs)
one_ends x (PushNonVolatile r) bs xs e h = h e
one_ends x (Alloc n) bs xs e h = h e
one_ends x SetFPRegister bs xs e h = h e
one_ends x (SaveNonVolatile r o) bs xs e h = h e
one_ends x (SaveXMM r o) bs xs e h = h e
one_ends x (Epilog y z) bs xs e h = h e
one_ends x (SaveXMM128 r o) bs xs e h = h e
one_ends x (PushMachineFrame y) bs xs e h = cc
one_ends x Noop bs xs e h = h e

ends_frame : (x : Bool) (cs : List ChainCode) → machine_frames cs ≡ x ∷ [] → Ends (interrupted x) (acts_of cs)
ends_frame x [] e = let z : ◌≡◌ {A = ℕ} 0 1 = cc in absurd (omega arith)
ends_frame x (c ∷ cs) e = one_ends x c.code.operation (machine_frames cs) (acts_of cs) e (ends_frame x cs)

pub ends_is : (entry : Entry) (cs : List ChainCode) → Entered entry cs → Ends entry (acts_of cs)
ends_is called cs h = ends_called (acts_of cs)
ends_is (interrupted x) cs h = ends_frame x cs h

-- ---- registers

one_general : (o : UnwindOperation) (xs : List Act) → keeps_general o (owed xs) ≡ owed (act_of o xs)
one_general (PushNonVolatile r) xs = refl
one_general (Alloc n) xs = refl
one_general SetFPRegister xs = refl
one_general (SaveNonVolatile r o) xs = refl
one_general (SaveXMM r o) xs = refl
one_general (Epilog x y) xs = refl
one_general (SaveXMM128 r o) xs = refl
one_general (PushMachineFrame e) xs = refl
one_general Noop xs = refl

pub general_is : (cs : List ChainCode) → general_kept cs ≡ owed (acts_of cs)
general_is [] = refl
general_is (c ∷ cs) = ap (keeps_general c.code.operation) (general_is cs) ∙ one_general c.code.operation (acts_of cs)

one_framed : (o : UnwindOperation) (xs : List Act) → pick (is_set_frame o) true (framed xs) ≡ framed (act_of o xs)
one_framed (PushNonVolatile r) xs = refl
one_framed (Alloc n) xs = refl
one_framed SetFPRegister xs = refl
one_framed (SaveNonVolatile r o) xs = refl
one_framed (SaveXMM r o) xs = refl
one_framed (Epilog x y) xs = refl
one_framed (SaveXMM128 r o) xs = refl
one_framed (PushMachineFrame e) xs = refl
one_framed Noop xs = refl

pub framed_by_lem : (cs : List ChainCode) → framed_by cs ≡ framed (acts_of cs)
framed_by_lem [] = refl
framed_by_lem (c ∷ cs) = ap (pick (is_set_frame c.code.operation) true) (framed_by_lem cs) ∙ one_framed c.code.operation (acts_of cs)

-- an XMM register of which one word is not owed is not kept
one_xmm : (x j : ℕ) (o : UnwindOperation) (ns : List ℕ) (xs : List Act) → strict_kind o ≡ true → (2 * x ≡ j) ⊎ (2 * x + 1 ≡ j)
    → (NotIn j (owed_xmm xs) → NotIn x ns) → NotIn j (owed_xmm (act_of o xs)) → NotIn x (keeps_xmm o ns)
one_xmm x j (PushNonVolatile r) ns xs k e h n = h n
one_xmm x j (Alloc i) ns xs k e h n = h n
one_xmm x j SetFPRegister ns xs k e h n = h n
one_xmm x j (SaveNonVolatile r o) ns xs k e h n = h n
one_xmm x j (SaveXMM r o) ns xs k e h n = absurd_kind k
one_xmm x j (Epilog y z) ns xs k e h n = h n
one_xmm x j (SaveXMM128 r o) ns xs k e h n =
    ((λ q. ⊎_elim (λ u. n.0 (sym u ∙ ap (λ y. 2 * y) q)) (λ u. n.1.0 (sym u ∙ ap (λ y. 2 * y + 1) q)) e), h n.1.1)
one_xmm x j (PushMachineFrame c) ns xs k e h n = h n
one_xmm x j Noop ns xs k e h n = h n

pub xmm_kept_lem : (x j : ℕ) (f : Frame) (cs : List ChainCode) → Plain f cs → (2 * x ≡ j) ⊎ (2 * x + 1 ≡ j) → NotIn j (owed_xmm (acts_of cs))
    → NotIn x (xmm_kept cs)
xmm_kept_lem x j f [] h e n = tt
xmm_kept_lem x j f (c ∷ cs) h e n =
    one_xmm x j c.code.operation (xmm_kept cs) (acts_of cs) h.1 e (xmm_kept_lem x j f cs h.2 e) n

-- and of one that is not kept no word is owed
one_left : (x j : ℕ) (o : UnwindOperation) (ns : List ℕ) (xs : List Act) → (2 * x ≡ j) ⊎ (2 * x + 1 ≡ j)
    → (NotIn x ns → NotIn j (owed_xmm xs)) → NotIn x (keeps_xmm o ns) → NotIn j (owed_xmm (act_of o xs))
one_left x j (PushNonVolatile r) ns xs e h n = h n
one_left x j (Alloc i) ns xs e h n = h n
one_left x j SetFPRegister ns xs e h n = h n
one_left x j (SaveNonVolatile r o) ns xs e h n = h n
one_left x j (SaveXMM r o) ns xs e h n = h n.1
one_left x j (Epilog y z) ns xs e h n = h n
one_left x j (SaveXMM128 r o) ns xs e h n = (
  (λ q. n.0 (⊎_elim (λ u. omega arith) (λ u. absurd (omega arith)) e)),
  ((λ q. n.0 (⊎_elim (λ u. absurd (omega arith)) (λ u. omega arith) e)), h n.1),
)
one_left x j (PushMachineFrame c) ns xs e h n = h n
one_left x j Noop ns xs e h n = h n

pub xmm_left_lem : (x j : ℕ) (cs : List ChainCode) → (2 * x ≡ j) ⊎ (2 * x + 1 ≡ j) → NotIn x (xmm_kept cs) → NotIn j (owed_xmm (acts_of cs))
xmm_left_lem x j [] e n = tt
xmm_left_lem x j (c ∷ cs) e n = one_left x j c.code.operation (xmm_kept cs) (acts_of cs) e (xmm_left_lem x j cs e) n

-- the XMM registers that acts save, by number
abbrev pub xmm_numbers : List Act → List ℕ
xmm_numbers [] = []
xmm_numbers (push r ∷ cs) = xmm_numbers cs
xmm_numbers (alloc n ∷ cs) = xmm_numbers cs
xmm_numbers (frame ∷ cs) = xmm_numbers cs
xmm_numbers (save r o ∷ cs) = xmm_numbers cs
xmm_numbers (save_xmm x o ∷ cs) = x ∷ xmm_numbers cs
xmm_numbers (trap e ∷ cs) = xmm_numbers cs

one_number : (o : UnwindOperation) (xs : List Act) → strict_kind o ≡ true → keeps_xmm o (xmm_numbers xs) ≡ xmm_numbers (act_of o xs)
one_number (PushNonVolatile r) xs h = refl
one_number (Alloc n) xs h = refl
one_number SetFPRegister xs h = refl
one_number (SaveNonVolatile r o) xs h = refl
one_number (SaveXMM r o) xs h = absurd_kind h
one_number (Epilog x y) xs h = refl
one_number (SaveXMM128 r o) xs h = refl
one_number (PushMachineFrame e) xs h = refl
one_number Noop xs h = refl

pub xmm_numbers_lem : (f : Frame) (cs : List ChainCode) → Plain f cs → xmm_kept cs ≡ xmm_numbers (acts_of cs)
xmm_numbers_lem f [] h = refl
xmm_numbers_lem f (c ∷ cs) h =
    ap (keeps_xmm c.code.operation) (xmm_numbers_lem f cs h.2) ∙ one_number c.code.operation (acts_of cs) h.1
