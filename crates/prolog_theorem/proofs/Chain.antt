-- From arrays that the strict check accepts, a stop and a window, to what undoing comes to.
-- Assumes nothing.
use Rattle.std.specs.Prelude.{Some}
use mathlib.Core.Path.{◌≡◌, refl, sym, ap, ◌∙◌}
use mathlib.Core.Logic.{◌≢◌, ◌⊎◌, inl, inr}
use mathlib.Core.Bool.{Bool, true, false, not}
use mathlib.Core.List.{List, [], ◌∷◌}
use Prim.Native.Nat.{ℕ, ◌+◌, ◌*◌, ◌/◌}
use native.Mathlib.Decide.{ℕ_discrete}
use native.Mathlib.Omega.{arith}
use lib.ListN.{length, get_or, set, length-set}
use lib.Seq.{get_or-set_same, get_or-set_other, ext_get_or}
use lib.Dec.{leb, eqb}
use borrow.Author.Tests.{eqb-true, eqb-false, eq-eqb, not-true}
use Rattle.unwind_array.specs.Arrays.{Frame, Arrays, ChainCode, outer_codes, joined_of}
use Rattle.unwind_state.specs.State.{gpr, rsp, Window}
use Rattle.unwind_state.specs.declared.State.{State}
use Rattle.unwind_undo.specs.Undo.{Undone, caller, Base, BaseRule, base_when_undone, is_set_frame, framed_by, unwind_of}
use Rattle.unwind_undo.specs.Distance.{Distance, undone_of}
use Rattle.unwind_operation.specs.declared.UnwindOperation.{UnwindOperation}
use Rattle.unwind_operation.specs.declared.UnwindOperation.TheVariants.{PushNonVolatile, Alloc, SetFPRegister, SaveNonVolatile, SaveXMM}
use Rattle.unwind_operation.specs.declared.UnwindOperation.TheVariants.{Epilog, SaveXMM128, PushMachineFrame, Noop}
use Rattle.strict_prolog.specs.Strict.{every, some, operations, offsets_of, never_rise, same_truth, pushes, spares_rsp, is_machine_frame, strict}
use Rattle.strict_prolog.specs.Strict as check
use Rattle.prolog_machine.specs.Machine.{Memory, Machine, rsp_of, Entry, called, interrupted, run, caller_of}
use Rattle.prolog_machine.specs.Stop.{Every, In, NotIn, Sized, Small, ran_of, PastProlog, needed, written, entry_words, Fits, Entered, general_kept, xmm_kept}
use Rattle.prolog_machine.specs.Stop.{SameWord, SameXmm, FreeBody, Body, Same, Stop, inside, after, FreeStop, free_inside, free_after, Holds}
use Rattle.prolog_theorem.specs.Recovered.{Recovered}
use Rattle.prolog_theorem.proofs.Acts.{Act, acts, framed, owed, owed_xmm, Good}
use Rattle.prolog_theorem.proofs.Runs.{size_is, xmm_is, register_is, framed_owed, no_four}
use Rattle.prolog_theorem.proofs.Words.{needs, distinct, there}
use Rattle.prolog_theorem.proofs.Back.{Ready, RightBase, Ends, Mends, not_in, caller_rsp, Result, back}
use Rattle.prolog_theorem.proofs.Base.{when_undone, base_at_stop, at_stop}
use Rattle.prolog_theorem.proofs.Codes.{ops_of, acts_of, Plain, run_is, undo_is, needed_is, written_is, kept_words}
use Rattle.prolog_theorem.proofs.Codes.{fits_is, ends_is, framed_by_lem, general_is, xmm_kept_lem, xmm_left_lem, xmm_numbers, xmm_numbers_lem}
use Rattle.prolog_theorem.proofs.Cross.{both, not_both, SmallIn, Checked, crossed, framed_is}
use Rattle.prolog_theorem.proofs.Ran.{undone_is_run, Sound, found_sound, past_run, plain_joined, plain_ran, ops_joined, some_ran}

-- ---- the strict check

abbrev pub is_trap : Arrays → Bool
is_trap a = some is_machine_frame (operations a)

-- the conditions that the theorem needs, but for alignment, which is of windows
pub record Enough (a : Arrays) : Type 0 where
  pub order : check.in_order a ≡ true
  pub offsets : check.offsets_fall a ≡ true
  pub size : check.offsets_in_prolog a ≡ true
  pub kinds : check.strict_kinds a ≡ true
  pub agree : check.frames_agree a ≡ true
  pub named : check.frame_is_set a ≡ true
  pub pushed : check.frame_is_pushed a ≡ true
  pub spare : check.rsp_is_spared a ≡ true
  pub apart : check.places_apart a ≡ true
  pub inside : check.places_inside a ≡ true

pub strict_enough : (a : Arrays) → strict a ≡ true → Enough a × (check.all_aligned a ≡ true)
unfolding strict
strict_enough a e =
    let c1 = both (check.in_order a) _ e in
    let c2 = both (check.offsets_fall a) _ c1.1 in
    let c3 = both (check.offsets_in_prolog a) _ c2.1 in
    let c4 = both (check.epilogs_first a) _ c3.1 in
    let c5 = both (check.strict_kinds a) _ c4.1 in
    let c6 = both (check.frames_agree a) _ c5.1 in
    let c7 = both (check.frame_is_not_rsp a) _ c6.1 in
    let c8 = both (check.frame_is_set a) _ c7.1 in
    let c9 = both (check.frame_is_pushed a) _ c8.1 in
    let c10 = both (check.rsp_is_spared a) _ c9.1 in
    let c11 = both (check.all_aligned a) _ c10.1 in
    let c12 = both (check.places_apart a) _ c11.1 in
    let c13 = both (check.places_inside a) _ c12.1 in (
      record {
        order = c1.0;
        offsets = c2.0;
        size = c3.0;
        kinds = c5.0;
        agree = c6.0;
        named = c8.0;
        pushed = c9.0;
        spare = c10.0;
        apart = c12.0;
        inside = c13.0;
      },
      c11.0,
    )

-- the frame register is not RSP: it was pushed, and RSP never is
spared_one : (o : UnwindOperation) → spares_rsp o ≡ true → pushes 4 o ≡ false
spared_one (PushNonVolatile r) e = not-true (eqb r.0 4) e
spared_one (Alloc n) e = refl
spared_one SetFPRegister e = refl
spared_one (SaveNonVolatile r o) e = refl
spared_one (SaveXMM r o) e = refl
spared_one (Epilog x y) e = refl
spared_one (SaveXMM128 r o) e = refl
spared_one (PushMachineFrame c) e = refl
spared_one Noop e = refl

spared : (os : List UnwindOperation) → every spares_rsp os ≡ true → some (pushes 4) os ≡ false
spared [] e = refl
spared (o ∷ os) e =
    let q = both (spares_rsp o) _ e in
    rw (spared_one o q.0, spared os q.1)

pub not_rsp_lem : (a : Arrays) → check.frame_is_pushed a ≡ true → check.rsp_is_spared a ≡ true → a.found.frame.register ≢ 4
not_rsp_lem a p r f =
    let h : some (pushes 4) (operations a) ≡ true = rw f at p in
    not_both (some (pushes 4) (operations a)) h (spared (operations a) r)

small_in : (cs : List ChainCode) → Small cs → SmallIn (ops_of cs)
small_in [] h = tt
small_in (c ∷ cs) h = (h.0, small_in cs h.1)

-- what the theorem needs of a strict chain and a distance
pub record Chain (a : Arrays) (d : Distance) : Type 0 where
  pub not_rsp : a.found.frame.register ≢ 4
  pub plain_all : Plain a.found.frame (joined_of a)
  pub plain : Plain a.found.frame (ran_of d a)
  pub sound_all : Sound a.found.frame.register (is_trap a) (acts_of (joined_of a))
  pub sound : Sound a.found.frame.register (is_trap a) (acts_of (ran_of d a))
  pub past : PastProlog d a.found.prolog → acts_of (ran_of d a) ≡ acts_of (joined_of a)
  pub named : framed (acts_of (ran_of d a)) ≡ true → a.found.frame.register ≢ 0
  pub framed_all : framed (acts_of (joined_of a)) ≡ not (eqb a.found.frame.register 0)

pub chain_from_lem : (a : Arrays) (d : Distance) → Enough a → Small (joined_of a) → Chain a d
unfolding joined_of
chain_from_lem a d p small =
    let f = a.found.frame in
    let ops = ops_joined a in
    let checked : Checked f.register (operations a) =
    record {
      order = p.order;
      kinds = p.kinds;
      spare = p.spare;
      apart = p.apart;
      inside = p.inside;
      named = p.named;
      pushed = p.pushed;
    } in
    let smalls : SmallIn (operations a) = rw ops at (small_in (joined_of a) small) in
    let s = crossed (operations a) f.register checked smalls in
    let sAll : Sound f.register (is_trap a) (acts_of (joined_of a)) = rw ops s in
    let names : some is_set_frame (operations a) ≡ not (eqb f.register 0) =
    named (not (eqb f.register 0)) (some is_set_frame (operations a)) p.named in
    let plainA = plain_joined a p.agree p.kinds in
    record {
      not_rsp = not_rsp_lem a p.pushed p.spare;
      plain_all = plainA;
      plain = plain_ran d a plainA;
      sound_all = sAll;
      sound =
          found_sound d f a.found.prolog (outer_codes a.outer) f.register (is_trap a) true a.found.codes
          (both (never_rise (offsets_of a.found.codes)) _ p.offsets).0 sAll;
      past =
          past_run d f a.found.prolog (outer_codes a.outer) true a.found.codes a.found.prolog
          (both (every (λ n. leb n a.found.prolog) (offsets_of a.found.codes)) _ p.size).0;
      named =
          λ b z.
          let all : some is_set_frame (operations a) ≡ true = rw ops at (some_ran is_set_frame d a (sym (framed_is (ops_of (ran_of d a))) ∙ b)) in
          not_both (eqb f.register 0) (eq-eqb f.register 0 z) (not-true (eqb f.register 0) (sym names ∙ all));
      framed_all = rw ops (framed_is (operations a) ∙ names);
    }
  where
    named : (x y : Bool) → same_truth x y ≡ true → y ≡ x
    named true y e = e
    named false y e = not-true y e

pub chain : (a : Arrays) (d : Distance) → strict a ≡ true → Small (joined_of a) → Chain a d
chain a d e small = chain_from_lem a d (strict_enough a e).0 small

-- ---- a stop

-- what undoing goes by at a stop: RSP or the frame register, and the words
pub record Stopped (entry : Entry) (f : Frame) (xs : List Act) (m n : Machine) : Type 0 where
  pub sized : Sized n.registers
  pub ready : Ready f (framed xs) (acts entry f xs m).registers n.registers
  pub words : Every (SameWord n (acts entry f xs m)) (needs entry f xs m)

pub every_of : (P : ℕ → Type 0) (xs : List ℕ) → ((x : ℕ) → P x) → Every P xs
every_of P [] h = tt
every_of P (x ∷ xs) h = (h x, every_of P xs h)

pub holds_agreed : (w : Window) (later earlier : Memory) (xs : List ℕ) → Holds w later xs → Every (λ x. later x ≡ earlier x) xs
    → Holds w earlier xs
holds_agreed w later earlier [] h e = tt
holds_agreed w later earlier (x ∷ xs) h e = (h.0 ∙ ap Some e.0, holds_agreed w later earlier xs h.1 e.1)

-- whatever the rule for the base, if it serves
pub unwound : (rule : BaseRule) (w : Window) (entry : Entry) (a : Arrays) (d : Distance) (m n : Machine) → Chain a d
    → Sized m.registers → Entered entry (ran_of d a) → Fits entry (ran_of d a) m
    → Stopped entry a.found.frame (acts_of (ran_of d a)) m n → Holds w n.memory (needed entry (ran_of d a) m)
    → RightBase (rule n.registers (framed_by (ran_of d a))) entry a.found.frame m (acts_of (ran_of d a))
    → Result entry m (owed (acts_of (ran_of d a))) (owed_xmm (acts_of (ran_of d a))) n.registers (unwind_of rule w (ran_of d a) n.registers)
unfolding unwind_of
unwound rule w entry a d m n c zm en fit stop hold right =
    let f : Frame = a.found.frame in
    let xs : List Act = acts_of (ran_of d a) in
    let base : Base = rule n.registers (framed_by (ran_of d a)) in
    let fits = fits_is entry f (ran_of d a) m c.plain fit in
    let held' : Holds w n.memory (needs entry f xs m) = rw (needed_is entry f (ran_of d a) m c.plain) at hold in
    let holds = there w entry f m xs (distinct entry f (is_trap a) m c.not_rsp zm.general xs c.sound.0 fits)
    (holds_agreed w n.memory (acts entry f xs m).memory (needs entry f xs m) held' stop.words) in
    let r = back base w entry f (is_trap a) m c.not_rsp zm xs n.registers c.sound.0 fits (ends_is entry (ran_of d a) en) holds right
    stop.sized stop.ready in
    record {
      state = r.state;
      answer = undo_is base w f (ran_of d a) n.registers c.plain ∙ r.answer;
      sized = r.sized;
      rip = r.rip;
      stack = r.stack;
      general = r.general;
      xmm = r.xmm;
    }

-- ---- inside the prolog

ready_same : (f : Frame) (b : Bool) (p s : State) → s.gpr ≡ p.gpr → Ready f b p s
ready_same f false p s e = ap (λ g. get_or g 4 0) e
ready_same f true p s e = ap (λ g. get_or g f.register 0) e

pub stopped_inside : (entry : Entry) (a : Arrays) (d : Distance) (m n : Machine) → Chain a d → Sized m.registers
    → Same n (run entry (ran_of d a) m) → Stopped entry a.found.frame (acts_of (ran_of d a)) m n
stopped_inside entry a d m n c zm s =
    let f : Frame = a.found.frame in
    let xs : List Act = acts_of (ran_of d a) in
    let e = run_is entry f (ran_of d a) m c.plain in
    let g : n.registers.gpr ≡ (acts entry f xs m).registers.gpr = s.general ∙ ap (λ p. p.registers.gpr) e in
    let x : n.registers.xmm ≡ (acts entry f xs m).registers.xmm = s.xmm ∙ ap (λ p. p.registers.xmm) e in
    record {
      sized =
          record { general = ap length g ∙ size_is entry f m xs ∙ zm.general; xmm = ap length (x ∙ xmm_is entry f m xs) ∙ zm.xmm };
      ready = ready_same f (framed xs) (acts entry f xs m).registers n.registers g;
      words = every_of (SameWord n (acts entry f xs m)) (needs entry f xs m) (λ y. s.memory y ∙ ap (λ p. p.memory y) e);
    }

-- ---- after the prolog and a body

pub stopped_after : (entry : Entry) (a : Arrays) (d : Distance) (m n : Machine) → Chain a d → Entered entry (ran_of d a)
    → PastProlog d a.found.prolog → Sized n.registers
    → FreeBody entry (joined_of a) a.found.frame m (run entry (joined_of a) m) n
    → Stopped entry a.found.frame (acts_of (ran_of d a)) m n
stopped_after entry a d m n c en past zn body =
    let f : Frame = a.found.frame in
    let xs : List Act = acts_of (ran_of d a) in
    let ys : List Act = acts_of (joined_of a) in
    let same : xs ≡ ys = c.past past in
    let e : run entry (joined_of a) m ≡ acts entry f ys m = run_is entry f (joined_of a) m c.plain_all in
    let ends : Ends entry ys = rw same at (ends_is entry (ran_of d a) en) in
    rw same
    (record {
      sized = zn;
      ready =
          ready (framed ys) (eqb f.register 0) (acts entry f ys m) c.framed_all refl
          (λ h. rw e at (body.frame_register_of h)) (λ h. rw e at (body.stack_pointer h));
      words =
          kept_words (SameWord n (acts entry f ys m)) entry f (is_trap a) ys m c.sound_all.0 ends
          (rw (e, written_is entry f (joined_of a) m c.plain_all) at body.words_written)
          (rw e at body.words_of_entry);
    })
  where
    ready : (b z : Bool) (p : Machine) → b ≡ not z → eqb a.found.frame.register 0 ≡ z
        → (a.found.frame.register ≢ 0 → gpr n.registers a.found.frame.register ≡ gpr p.registers a.found.frame.register)
        → (a.found.frame.register ≡ 0 → rsp_of n ≡ rsp_of p) → Ready a.found.frame b p.registers n.registers
    ready false true p e k named none = none (eqb-true a.found.frame.register 0 k)
    ready true false p e k named none = named (eqb-false a.found.frame.register 0 k)
    ready false false p e k named none = not_both false e refl
    ready true true p e k named none = not_both false (sym e) refl

-- ---- the caller

-- what no code keeps is at the stop as at entry
pub record Left (xs ys : List ℕ) (m n : Machine) : Type 0 where
  pub general : (r : ℕ) → r ≢ 4 → NotIn r xs → gpr n.registers r ≡ gpr m.registers r
  pub xmm : (j : ℕ) → NotIn j ys → get_or n.registers.xmm j 0 ≡ get_or m.registers.xmm j 0

pub caller_is : (entry : Entry) (m n : Machine) (xs ys : List ℕ) (out : Undone) → Sized m.registers
    → Result entry m xs ys n.registers out → Left xs ys m n → out ≡ caller (caller_of entry m)
caller_is entry m n xs ys out zm r left = r.answer ∙ ap caller (same entry r.rip r.stack)
  where
    t : State
    t = r.state

    lm : length m.registers.gpr ≡ 16
    lm = zm.general

    lt : length t.gpr ≡ 16
    lt = r.sized.general

    known : (x : ℕ) → x ≢ 4 → NotIn x xs ⊎ (¬ NotIn x xs) → gpr t x ≡ gpr m.registers x
    known x x4 (inl n) = r.general.stays x x4 n ∙ left.general x x4 n
    known x x4 (inr n) = r.general.known x x4 n

    at_register : (v x : ℕ) → rsp t ≡ v → Dec (x ≡ 4) → gpr t x ≡ get_or (set m.registers.gpr 4 v) x 0
    at_register v x h (yes e) =
        ap (λ y. gpr t y) e ∙ h ∙ sym (ap (λ y. get_or (set m.registers.gpr 4 v) y 0) e ∙ get_or-set_same m.registers.gpr 4 v 0 (omega arith))
    at_register v x h (no x4) = known x x4 (not_in x xs) ∙ sym (get_or-set_other m.registers.gpr 4 x v 0 x4)

    general : (v : ℕ) → rsp t ≡ v → t.gpr ≡ set m.registers.gpr 4 v
    general v h =
        ext_get_or 0 t.gpr (set m.registers.gpr 4 v) (lt ∙ sym (length-set m.registers.gpr 4 v ∙ lm))
        (λ x _. at_register v x h (ℕ_discrete x 4))

    known_xmm : (j : ℕ) → NotIn j ys ⊎ (¬ NotIn j ys) → get_or t.xmm j 0 ≡ get_or m.registers.xmm j 0
    known_xmm j (inl n) = r.xmm.stays j tt n ∙ left.xmm j n
    known_xmm j (inr n) = r.xmm.known j tt n

    xmms : t.xmm ≡ m.registers.xmm
    xmms = ext_get_or 0 t.xmm m.registers.xmm (r.sized.xmm ∙ sym zm.xmm) (λ j _. known_xmm j (not_in j ys))

    state_is : (g : List ℕ) (i : ℕ) (x : List ℕ) → t.gpr ≡ g → t.rip ≡ i → t.xmm ≡ x → t ≡ record { gpr = g; rip = i; xmm = x }
    state_is g i x eg ei ex =
        ap (λ g. record { gpr = g; rip = t.rip; xmm = t.xmm }) eg
        ∙ ap (λ i. record { gpr = g; rip = i; xmm = t.xmm }) ei
        ∙ ap (λ x. record { gpr = g; rip = i; xmm = x }) ex

    same : (entry : Entry) → t.rip ≡ (caller_of entry m).rip → rsp t ≡ caller_rsp entry m → t ≡ caller_of entry m
    same called ei es = state_is _ _ _ (general _ es) ei xmms
    same (interrupted x) ei es = state_is _ _ _ (general _ es) ei xmms

-- a register that the codes leave: not RSP, and not the frame register, which they push where they set it
left_general : (entry : Entry) (f : Frame) (mf : Bool) (m : Machine) (xs : List Act) (r : ℕ) → Good f.register mf xs → r ≢ 4
    → NotIn r (owed xs) → gpr (acts entry f xs m).registers r ≡ gpr m.registers r
left_general entry f mf m xs r g r4 n =
    register_is entry f m xs r r4 (λ b e. framed_owed f.register mf xs g b (rw e at n))

pub left_inside : (entry : Entry) (a : Arrays) (d : Distance) (m n : Machine) → Chain a d → Same n (run entry (ran_of d a) m)
    → Left (owed (acts_of (ran_of d a))) (owed_xmm (acts_of (ran_of d a))) m n
left_inside entry a d m n c s =
    let f : Frame = a.found.frame in
    let xs : List Act = acts_of (ran_of d a) in
    let e = run_is entry f (ran_of d a) m c.plain in
    record {
      general =
          λ r r4 k.
          ap (λ g. get_or g r 0) (s.general ∙ ap (λ p. p.registers.gpr) e) ∙ left_general entry f (is_trap a) m xs r c.sound.0 r4 k;
      xmm = λ j k. ap (λ x. get_or x j 0) (s.xmm ∙ ap (λ p. p.registers.xmm) e ∙ xmm_is entry f m xs);
    }

half : (j : ℕ) → (2 * (j / 2) ≡ j) ⊎ (2 * (j / 2) + 1 ≡ j)
half j = go (ℕ_discrete (2 * (j / 2)) j)
  where
    go : Dec (2 * (j / 2) ≡ j) → (2 * (j / 2) ≡ j) ⊎ (2 * (j / 2) + 1 ≡ j)
    go (yes e) = inl e
    go (no n) = inr (omega arith)

pub left_after : (entry : Entry) (a : Arrays) (d : Distance) (m n : Machine) → Chain a d → PastProlog d a.found.prolog
    → Body entry (joined_of a) a.found.frame m (run entry (joined_of a) m) n
    → Left (owed (acts_of (ran_of d a))) (owed_xmm (acts_of (ran_of d a))) m n
left_after entry a d m n c past body =
    let f : Frame = a.found.frame in
    let ys : List Act = acts_of (joined_of a) in
    let e : run entry (joined_of a) m ≡ acts entry f ys m = run_is entry f (joined_of a) m c.plain_all in
    rw (c.past past)
    (record {
      general =
          λ r r4 k.
          body.general r r4 (rw (general_is (joined_of a)) k)
          ∙ ap (λ p. gpr p.registers r) e
          ∙ left_general entry f (is_trap a) m ys r c.sound_all.0 r4 k;
      xmm =
          λ j k.
          word j (half j) (body.xmm (j / 2) (xmm_kept_lem (j / 2) j f (joined_of a) c.plain_all (half j) k))
          ∙ ap (λ x. get_or x j 0) (ap (λ p. p.registers.xmm) e ∙ xmm_is entry f m ys);
    })
  where
    word : (j : ℕ) → (2 * (j / 2) ≡ j) ⊎ (2 * (j / 2) + 1 ≡ j) → SameXmm n.registers (run entry (joined_of a) m).registers (j / 2)
        → get_or n.registers.xmm j 0 ≡ get_or (run entry (joined_of a) m).registers.xmm j 0
    word j (inl h) s =
        ap (λ i. get_or n.registers.xmm i 0) (sym h) ∙ s.0 ∙ ap (λ i. get_or (run entry (joined_of a) m).registers.xmm i 0) h
    word j (inr h) s =
        ap (λ i. get_or n.registers.xmm i 0) (sym h) ∙ s.1 ∙ ap (λ i. get_or (run entry (joined_of a) m).registers.xmm i 0) h

-- ---- the theorem

-- what is asked of a rule for the base of a save, at a stop
abbrev pub Serves : BaseRule → Entry → Arrays → Distance → Machine → Machine → Type 0
Serves rule entry a d m n = RightBase (rule n.registers (framed_by (ran_of d a))) entry a.found.frame m (acts_of (ran_of d a))

-- the rule of the register as it is when the save is undone serves
pub serves_when_undone : (entry : Entry) (a : Arrays) (d : Distance) (m n : Machine) → Chain a d → Sized m.registers
    → Serves base_when_undone entry a d m n
serves_when_undone entry a d m n c zm =
    when_undone entry a.found.frame (is_trap a) m c.not_rsp zm.general n.registers (framed_by (ran_of d a)) (acts_of (ran_of d a))
    c.sound.0 c.sound.1

-- the theorem, by any rule that serves
pub undoes_by : (rule : BaseRule) (a : Arrays) (d : Distance) (entry : Entry) (m n : Machine) (w : Window) → Chain a d → Sized m.registers
    → Entered entry (ran_of d a) → Stop entry a d m n → Fits entry (ran_of d a) m → Holds w n.memory (needed entry (ran_of d a) m)
    → (Stopped entry a.found.frame (acts_of (ran_of d a)) m n → Serves rule entry a d m n)
    → unwind_of rule w (undone_of d (joined_of a)) n.registers ≡ caller (caller_of entry m)
undoes_by rule a d entry m n w c zm en stop fit hold serves = rw (undone_is_run d a) (go stop)
  where
    from : Stopped entry a.found.frame (acts_of (ran_of d a)) m n → Left (owed (acts_of (ran_of d a))) (owed_xmm (acts_of (ran_of d a))) m n
        → unwind_of rule w (ran_of d a) n.registers ≡ caller (caller_of entry m)
    from s left =
        caller_is entry m n (owed (acts_of (ran_of d a))) (owed_xmm (acts_of (ran_of d a))) (unwind_of rule w (ran_of d a) n.registers) zm
        (unwound rule w entry a d m n c zm en fit s hold (serves s)) left

    go : Stop entry a d m n → unwind_of rule w (ran_of d a) n.registers ≡ caller (caller_of entry m)
    go (inside s) = from (stopped_inside entry a d m n c zm s) (left_inside entry a d m n c s)
    go (after past zn body) = from (stopped_after entry a d m n c en past zn body.free) (left_after entry a d m n c past body)

-- from the conditions that it needs
pub undoes_enough : (a : Arrays) (d : Distance) (entry : Entry) (m n : Machine) (w : Window) → Enough a → Small (joined_of a)
    → Sized m.registers → Entered entry (ran_of d a) → Stop entry a d m n → Fits entry (ran_of d a) m
    → Holds w n.memory (needed entry (ran_of d a) m)
    → unwind_of base_when_undone w (undone_of d (joined_of a)) n.registers ≡ caller (caller_of entry m)
undoes_enough a d entry m n w e small zm en stop fit hold =
    let c = chain_from_lem a d e small in
    undoes_by base_when_undone a d entry m n w c zm en stop fit hold (λ _. serves_when_undone entry a d m n c zm)

pub undoes : (a : Arrays) (d : Distance) (entry : Entry) (m n : Machine) (w : Window) → strict a ≡ true → Small (joined_of a)
    → Sized m.registers → Entered entry (ran_of d a) → Stop entry a d m n → Fits entry (ran_of d a) m
    → Holds w n.memory (needed entry (ran_of d a) m)
    → unwind_of base_when_undone w (undone_of d (joined_of a)) n.registers ≡ caller (caller_of entry m)
undoes a d entry m n w e small = undoes_enough a d entry m n w (strict_enough a e).0 small

-- the rule of the register as it is at the stop serves too
pub serves_at_stop : (entry : Entry) (a : Arrays) (d : Distance) (m n : Machine) → Chain a d → Sized m.registers
    → Stopped entry a.found.frame (acts_of (ran_of d a)) m n → Serves base_at_stop entry a d m n
serves_at_stop entry a d m n c zm s =
    rw (framed_by_lem (ran_of d a))
    (at_stop entry a.found.frame (is_trap a) m c.not_rsp zm.general n.registers (acts_of (ran_of d a)) c.sound.0 s.ready)

-- ---- after any body

pub in_not : (x : ℕ) (xs : List ℕ) → In x xs → ¬ NotIn x xs
in_not x [] i n = i
in_not x (y ∷ ys) (inl e) n = n.0 e
in_not x (y ∷ ys) (inr i) n = in_not x ys i n.1

-- inside a prolog with other instructions
stopped_near : (entry : Entry) (a : Arrays) (d : Distance) (m n : Machine) → Chain a d → Entered entry (ran_of d a) → Sized n.registers
    → rsp_of n ≡ rsp_of (run entry (ran_of d a) m) → FreeBody entry (ran_of d a) a.found.frame m (run entry (ran_of d a) m) n
    → Stopped entry a.found.frame (acts_of (ran_of d a)) m n
stopped_near entry a d m n c en zn stack body =
    let f : Frame = a.found.frame in
    let xs : List Act = acts_of (ran_of d a) in
    let e = run_is entry f (ran_of d a) m c.plain in
    record {
      sized = zn;
      ready = ready (framed xs) (acts entry f xs m) c.named (λ h. rw e at (body.frame_register_of h)) (rw e at stack);
      words =
          kept_words (SameWord n (acts entry f xs m)) entry f (is_trap a) xs m c.sound.0 (ends_is entry (ran_of d a) en)
          (rw (e, written_is entry f (ran_of d a) m c.plain) at body.words_written) (rw e at body.words_of_entry);
    }
  where
    ready : (b : Bool) (p : Machine) → (b ≡ true → a.found.frame.register ≢ 0)
        → (a.found.frame.register ≢ 0 → gpr n.registers a.found.frame.register ≡ gpr p.registers a.found.frame.register)
        → rsp_of n ≡ rsp_of p → Ready a.found.frame b p.registers n.registers
    ready false p h named stack = stack
    ready true p h named stack = named (h refl)

pub recovers : (a : Arrays) (d : Distance) (entry : Entry) (m n : Machine) (w : Window) → strict a ≡ true → Small (joined_of a)
    → Sized m.registers → Entered entry (ran_of d a) → FreeStop entry a d m n → Fits entry (ran_of d a) m
    → Holds w n.memory (needed entry (ran_of d a) m)
    → (t : State) × (unwind_of base_when_undone w (undone_of d (joined_of a)) n.registers ≡ caller t) × Recovered entry (ran_of d a) m n t
recovers a d entry m n w e small zm en stop fit hold =
    let c = chain a d e small in
    let r = unwound base_when_undone w entry a d m n c zm en fit (stopped c stop) hold (serves_when_undone entry a d m n c zm) in
    let t : State = r.state in
    let general : Mends (λ x. x ≢ 4) (general_kept (ran_of d a)) m.registers.gpr n.registers.gpr t.gpr =
    rw (general_is (ran_of d a)) r.general in
    let none : NotIn 4 (general_kept (ran_of d a)) =
    rw (general_is (ran_of d a)) (no_four a.found.frame.register (is_trap a) (acts_of (ran_of d a)) c.sound.0) in (
      t,
      rw (undone_is_run d a) r.answer,
      record {
        rip = r.rip;
        stack_pointer = r.stack ∙ sym (stack entry);
        general =
            λ x i.
            let k = in_not x (general_kept (ran_of d a)) i in
            let x4 : x ≢ 4 = λ h. k (rw h none) in
            general.known x x4 k ∙ sym (other entry x x4);
        general_left = λ x x4 k. general.stays x x4 k;
        xmm =
            λ x i.
            let k = in_not x (xmm_kept (ran_of d a)) i in (
              r.xmm.known (2 * x) tt (λ h. k (xmm_kept_lem x (2 * x) a.found.frame (ran_of d a) c.plain (inl refl) h)) ∙ sym (xmms entry (2 * x)),
              r.xmm.known (2 * x + 1) tt (λ h. k (xmm_kept_lem x (2 * x + 1) a.found.frame (ran_of d a) c.plain (inr refl) h))
                  ∙ sym (xmms entry (2 * x + 1)),
            );
        xmm_left =
            λ x k. (
              r.xmm.stays (2 * x) tt (xmm_left_lem x (2 * x) (ran_of d a) (inl refl) k),
              r.xmm.stays (2 * x + 1) tt (xmm_left_lem x (2 * x + 1) (ran_of d a) (inr refl) k),
            );
      },
    )
  where
    stopped : Chain a d → FreeStop entry a d m n → Stopped entry a.found.frame (acts_of (ran_of d a)) m n
    stopped c (free_inside zn stack body) = stopped_near entry a d m n c en zn stack body
    stopped c (free_after past zn body) = stopped_after entry a d m n c en past zn body

    lm : length m.registers.gpr ≡ 16
    lm = zm.general

    stack : (entry : Entry) → rsp (caller_of entry m) ≡ caller_rsp entry m
    stack called = get_or-set_same m.registers.gpr 4 _ 0 (omega arith)
    stack (interrupted y) = get_or-set_same m.registers.gpr 4 _ 0 (omega arith)

    other : (entry : Entry) (x : ℕ) → x ≢ 4 → gpr (caller_of entry m) x ≡ gpr m.registers x
    other called x x4 = get_or-set_other m.registers.gpr 4 x _ 0 x4
    other (interrupted y) x x4 = get_or-set_other m.registers.gpr 4 x _ 0 x4

    xmms : (entry : Entry) (j : ℕ) → get_or (caller_of entry m).xmm j 0 ≡ get_or m.registers.xmm j 0
    xmms called j = refl
    xmms (interrupted y) j = refl

-- past the prolog the codes that have run keep what all codes keep
pub past_kept : (a : Arrays) (d : Distance) → strict a ≡ true → Small (joined_of a) → PastProlog d a.found.prolog
    → (general_kept (ran_of d a) ≡ general_kept (joined_of a)) × (xmm_kept (ran_of d a) ≡ xmm_kept (joined_of a))
past_kept a d e small past =
    let c = chain a d e small in (
      general_is (ran_of d a) ∙ ap owed (c.past past) ∙ sym (general_is (joined_of a)),
      xmm_numbers_lem a.found.frame (ran_of d a) c.plain
          ∙ ap xmm_numbers (c.past past)
          ∙ sym (xmm_numbers_lem a.found.frame (joined_of a) c.plain_all),
    )

-- ---- windows and memories

-- the words that tell the caller are among those that the prolog wrote and those of the entry
pub needed_kept : (P : ℕ → Type 0) (a : Arrays) (d : Distance) (entry : Entry) (m : Machine) → strict a ≡ true → Small (joined_of a)
    → Entered entry (ran_of d a) → Every P (written entry (ran_of d a) m) → Every P (entry_words entry m)
    → Every P (needed entry (ran_of d a) m)
needed_kept P a d entry m e small en h k =
    let c = chain a d e small in
    let f : Frame = a.found.frame in
    rw (needed_is entry f (ran_of d a) m c.plain)
    (kept_words P entry f (is_trap a) (acts_of (ran_of d a)) m c.sound.0 (ends_is entry (ran_of d a) en)
    (rw (written_is entry f (ran_of d a) m c.plain) at h) k)
