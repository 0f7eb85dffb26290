-- What has run at a distance: what is undone, the acts of a later part of the chain, and past the prolog all of them.
-- Assumes nothing.
use mathlib.Core.Path.{◌≡◌, refl, sym, ap, ◌∙◌}
use mathlib.Core.Logic.{⊎_elim}
use mathlib.Core.Bool.{Bool, true, false, ◌||◌}
use mathlib.Core.List.{List, [], ◌∷◌, ◌++◌}
use Prim.Native.Nat.{ℕ}
use native.Mathlib.Omega.{arith}
use lib.Dec.{leb, eqb}
use borrow.Author.Tests.{leb-true, le-leb, eqb-true}
use Rattle.answer.specs.Test.{pick}
use Rattle.unwind_operation.specs.declared.UnwindOperation.{UnwindOperation}
use Rattle.unwind_operation.specs.declared.UnwindOperation.TheVariants.{PushNonVolatile, Alloc, SetFPRegister, SaveNonVolatile, SaveXMM}
use Rattle.unwind_operation.specs.declared.UnwindOperation.TheVariants.{Epilog, SaveXMM128, PushMachineFrame, Noop}
use Rattle.unwind_operation.specs.declared.UnwindCode.{UnwindCode}
use Rattle.unwind_array.specs.Arrays.{Frame, CodeArray, Arrays, ChainCode, codes_from, codes_in, outer_codes, joined_of}
use Rattle.unwind_undo.specs.Distance.{Distance, at, whole, has_run, undone_of}
use Rattle.strict_prolog.specs.Strict.{every, some, strict_kind, is_epilog, offsets_of, never_rise}
use Rattle.strict_prolog.specs.Strict.{operations_of, operations_in, same_frame}
use Rattle.prolog_machine.specs.Stop.{reached, up_to, ran_of, PastProlog}
use Rattle.prolog_theorem.proofs.Acts.{Act, Good}
use Rattle.prolog_theorem.proofs.Base.{After}
use Rattle.prolog_theorem.proofs.Codes.{act_of, ops_of, acts_of, Plain}
use Rattle.prolog_theorem.proofs.Cross.{both, either, right_true, not_both}

-- ---- what is undone is what has run

run_reached : (d : Distance) (n : ℕ) → has_run d n ≡ reached d n
run_reached (at d) n = refl
run_reached whole n = refl

undone_outer : (d : Distance) (f : Frame) (p : ℕ) (b : Bool) (cs : List UnwindCode) (ds : List ChainCode) → undone_of d ds ≡ ds
    → undone_of d (codes_from f p false b cs ++ ds) ≡ codes_from f p false b cs ++ ds
unfolding undone_of
undone_outer d f p b [] ds h = h
undone_outer d f p b (c ∷ cs) ds h =
    ap (λ r. record { code = c; frame = f; prolog = p; found = false; first = b } ∷ r) (undone_outer d f p false cs ds h)

undone_links : (d : Distance) (xs : List CodeArray) → undone_of d (outer_codes xs) ≡ outer_codes xs
unfolding undone_of
undone_links d [] = refl
undone_links d (x ∷ xs) = undone_outer d x.frame x.prolog true x.codes (outer_codes xs) (undone_links d xs)

undone_found : (d : Distance) (f : Frame) (p : ℕ) (b : Bool) (cs : List UnwindCode) (ds : List ChainCode) → undone_of d ds ≡ ds
    → undone_of d (codes_from f p true b cs ++ ds) ≡ up_to d (codes_from f p true b cs) ++ ds
unfolding undone_of
undone_found d f p b [] ds h = h
undone_found d f p b (c ∷ cs) ds h = go (reached d c.code_offset) (run_reached d c.code_offset) (undone_found d f p false cs ds h)
  where
    go : (t : Bool) → has_run d c.code_offset ≡ t
        → undone_of d (codes_from f p true false cs ++ ds) ≡ up_to d (codes_from f p true false cs) ++ ds
        → pick (has_run d c.code_offset)
        (record { code = c; frame = f; prolog = p; found = true; first = b } ∷ undone_of d (codes_from f p true false cs ++ ds))
        (undone_of d (codes_from f p true false cs ++ ds))
        ≡ pick t
        (record { code = c; frame = f; prolog = p; found = true; first = b } ∷ up_to d (codes_from f p true false cs))
        (up_to d (codes_from f p true false cs))
        ++ ds
    go true e h = rw (e, h)
    go false e h = rw (e, h)

pub undone_is_run : (d : Distance) (a : Arrays) → undone_of d (joined_of a) ≡ ran_of d a
unfolding joined_of
undone_is_run d a =
    undone_found d a.found.frame a.found.prolog true a.found.codes (outer_codes a.outer) (undone_links d a.outer)

-- ---- a later part

-- strict, of acts, with saves after a set frame
abbrev pub Sound : ℕ → Bool → List Act → Type 0
Sound fr mf xs = Good fr mf xs × After fr xs

sound_tail : (fr : ℕ) (mf : Bool) (o : UnwindOperation) (xs : List Act) → Sound fr mf (act_of o xs) → Sound fr mf xs
sound_tail fr mf (PushNonVolatile r) xs s = (s.0.3, s.1)
sound_tail fr mf (Alloc n) xs s = (s.0.1, s.1)
sound_tail fr mf SetFPRegister xs s = (s.0.2, s.1)
sound_tail fr mf (SaveNonVolatile r o) xs s = (s.0.4, s.1.1)
sound_tail fr mf (SaveXMM r o) xs s = s
sound_tail fr mf (Epilog x y) xs s = s
sound_tail fr mf (SaveXMM128 r o) xs s = (s.0.3, s.1.1)
sound_tail fr mf (PushMachineFrame c) xs s = (rw s.0.0 tt, rw s.0.0 tt)
sound_tail fr mf Noop xs s = s

-- an epilog is no act
epilog_acts : (o : UnwindOperation) (xs : List Act) → is_epilog o ≡ true → act_of o xs ≡ xs
epilog_acts (PushNonVolatile r) xs e = not_both false e refl
epilog_acts (Alloc n) xs e = not_both false e refl
epilog_acts SetFPRegister xs e = not_both false e refl
epilog_acts (SaveNonVolatile r o) xs e = not_both false e refl
epilog_acts (SaveXMM r o) xs e = not_both false e refl
epilog_acts (Epilog x y) xs e = refl
epilog_acts (SaveXMM128 r o) xs e = not_both false e refl
epilog_acts (PushMachineFrame c) xs e = not_both false e refl
epilog_acts Noop xs e = not_both false e refl

reached_down : (d : Distance) (a b : ℕ) → leb b a ≡ true → reached d a ≡ true → reached d b ≡ true
reached_down (at d) a b e h = le-leb b d (omega (arith, leb-true b a e, leb-true a d h))
reached_down whole a b e h = refl

-- offsets that never rise are reached from one on
all_reached : (d : Distance) (n : ℕ) (ns : List ℕ) → never_rise (n ∷ ns) ≡ true → reached d n ≡ true → every (reached d) ns ≡ true
all_reached d n [] e h = refl
all_reached d n (k ∷ ns) e h =
    let q = both (leb k n) _ e in
    let g = reached_down d n k q.0 h in
    rw (g, all_reached d k ns q.1 g)

-- and past the prolog all of them are
past_reached : (d : Distance) (size : ℕ) (ns : List ℕ) → every (λ n. leb n size) ns ≡ true → PastProlog d size → every (reached d) ns ≡ true
past_reached d size [] e past = refl
past_reached d size (n ∷ ns) e past =
    let q = both (leb n size) _ e in
    rw (reach d past q.0, past_reached d size ns q.1 past)
  where
    reach : (d : Distance) → PastProlog d size → leb n size ≡ true → reached d n ≡ true
    reach (at x) h e = le-leb n x (omega (arith, leb-true n size e))
    reach whole h e = refl

falls : (n : ℕ) (ns : List ℕ) → never_rise (n ∷ ns) ≡ true → never_rise ns ≡ true
falls n [] e = refl
falls n (k ∷ ns) e = (both (leb k n) _ e).1

module _ (d : Distance) (f : Frame) (p : ℕ) (ds : List ChainCode) where
  -- a code that is kept or not
  abbrev kept : Bool → Bool → UnwindCode → List UnwindCode → List ChainCode
  kept t b c cs =
      pick t (record { code = c; frame = f; prolog = p; found = true; first = b } ∷ up_to d (codes_from f p true false cs))
      (up_to d (codes_from f p true false cs))

  -- where all offsets are reached, epilogs aside, every act has run
  all_run : (b : Bool) (cs : List UnwindCode) → every (reached d) (offsets_of cs) ≡ true
      → acts_of (up_to d (codes_from f p true b cs) ++ ds) ≡ acts_of (codes_from f p true b cs ++ ds)
  all_run b [] e = refl
  all_run b (c ∷ cs) e = go (is_epilog c.operation) refl (λ e. all_run false cs e)
    where
      some_epilog : (t : Bool) → is_epilog c.operation ≡ true
          → acts_of (up_to d (codes_from f p true false cs) ++ ds) ≡ acts_of (codes_from f p true false cs ++ ds)
          → acts_of (kept t b c cs ++ ds) ≡ act_of c.operation (acts_of (codes_from f p true false cs ++ ds))
      some_epilog true k ih = ap (act_of c.operation) ih
      some_epilog false k ih = ih ∙ sym (epilog_acts c.operation (acts_of (codes_from f p true false cs ++ ds)) k)

      go : (t : Bool) → is_epilog c.operation ≡ t
          → (every (reached d) (offsets_of cs) ≡ true
          → acts_of (up_to d (codes_from f p true false cs) ++ ds) ≡ acts_of (codes_from f p true false cs ++ ds))
          → acts_of (up_to d (codes_from f p true b (c ∷ cs)) ++ ds) ≡ acts_of (codes_from f p true b (c ∷ cs) ++ ds)
      go true k ih = some_epilog (reached d c.code_offset) k (ih (rw k at e))
      go false k ih =
          let q = both (reached d c.code_offset) _ (rw k at e) in
          rw q.0 (ap (act_of c.operation) (ih q.1))

  pub past_run : (b : Bool) (cs : List UnwindCode) (size : ℕ) → every (λ n. leb n size) (offsets_of cs) ≡ true → PastProlog d size
      → acts_of (up_to d (codes_from f p true b cs) ++ ds) ≡ acts_of (codes_from f p true b cs ++ ds)
  past_run b cs size e past = all_run b cs (past_reached d size (offsets_of cs) e past)

  -- what has run of a strict list is strict
  pub found_sound : (fr : ℕ) (mf : Bool) (b : Bool) (cs : List UnwindCode) → never_rise (offsets_of cs) ≡ true
      → Sound fr mf (acts_of (codes_from f p true b cs ++ ds)) → Sound fr mf (acts_of (up_to d (codes_from f p true b cs) ++ ds))
  found_sound fr mf b [] r s = s
  found_sound fr mf b (c ∷ cs) r s = go (is_epilog c.operation) refl (λ r. found_sound fr mf false cs r tail)
    where
      tail : Sound fr mf (acts_of (codes_from f p true false cs ++ ds))
      tail = sound_tail fr mf c.operation (acts_of (codes_from f p true false cs ++ ds)) s

      some_epilog : (t : Bool) → is_epilog c.operation ≡ true → Sound fr mf (acts_of (up_to d (codes_from f p true false cs) ++ ds))
          → Sound fr mf (acts_of (kept t b c cs ++ ds))
      some_epilog true k ih = rw (epilog_acts c.operation (acts_of (up_to d (codes_from f p true false cs) ++ ds)) k) ih
      some_epilog false k ih = ih

      some_act : (t : Bool) → reached d c.code_offset ≡ t
          → (reached d c.code_offset ≡ true → every (reached d) (offsets_of cs) ≡ true)
          → Sound fr mf (acts_of (up_to d (codes_from f p true false cs) ++ ds)) → Sound fr mf (acts_of (kept t b c cs ++ ds))
      some_act true g all ih = rw (all_run false cs (all g)) s
      some_act false g all ih = ih

      go : (t : Bool) → is_epilog c.operation ≡ t
          → (never_rise (offsets_of cs) ≡ true → Sound fr mf (acts_of (up_to d (codes_from f p true false cs) ++ ds)))
          → Sound fr mf (acts_of (up_to d (codes_from f p true b (c ∷ cs)) ++ ds))
      go true k ih = some_epilog (reached d c.code_offset) k (ih (rw k at r))
      go false k ih =
          let r' : never_rise (c.code_offset ∷ offsets_of cs) ≡ true = rw k at r in
          some_act (reached d c.code_offset) refl (all_reached d c.code_offset (offsets_of cs) r')
          (ih (falls c.code_offset (offsets_of cs) r'))

-- ---- frames and kinds

every_both : {A : Type 0} (p : A → Bool) (xs ys : List A) → every p (xs ++ ys) ≡ true → (every p xs ≡ true) × (every p ys ≡ true)
every_both p [] ys e = (refl, e)
every_both p (x ∷ xs) ys e =
    let h = both (p x) _ e in
    let k = every_both p xs ys h.1 in
    (rw (h.0, k.0), k.1)

plain_from : (f g : Frame) (p : ℕ) (t b : Bool) (cs : List UnwindCode) (ds : List ChainCode) → g ≡ f
    → every strict_kind (operations_of cs) ≡ true → Plain f ds → Plain f (codes_from g p t b cs ++ ds)
plain_from f g p t b [] ds e k h = h
plain_from f g p t b (c ∷ cs) ds e k h =
    let q = both (strict_kind c.operation) _ k in
    (e, q.0, plain_from f g p t false cs ds e q.1 h)

same_frame_lem : (f : Frame) (x : CodeArray) → same_frame f x ≡ true → x.frame ≡ f
same_frame_lem f x e =
    let q = both (eqb x.frame.register f.register) _ e in
    ap (λ r. record { register = r; offset = x.frame.offset }) (eqb-true x.frame.register f.register q.0)
    ∙ ap (λ o. record { register = f.register; offset = o }) (eqb-true x.frame.offset f.offset q.1)

plain_outer : (f : Frame) (xs : List CodeArray) → every (same_frame f) xs ≡ true → every strict_kind (operations_in xs) ≡ true
    → Plain f (outer_codes xs)
plain_outer f [] e k = tt
plain_outer f (x ∷ xs) e k =
    let q = both (same_frame f x) _ e in
    let u = every_both strict_kind (operations_of x.codes) (operations_in xs) k in
    plain_from f x.frame x.prolog false true x.codes (outer_codes xs) (same_frame_lem f x q.0) u.0 (plain_outer f xs q.1 u.1)

pub plain_joined : (a : Arrays) → every (same_frame a.found.frame) a.outer ≡ true
    → every strict_kind (operations_in (a.found ∷ a.outer)) ≡ true → Plain a.found.frame (joined_of a)
unfolding joined_of
plain_joined a e k =
    let u = every_both strict_kind (operations_of a.found.codes) (operations_in a.outer) k in
    plain_from a.found.frame a.found.frame a.found.prolog true true a.found.codes (outer_codes a.outer) refl u.0
    (plain_outer a.found.frame a.outer e u.1)

plain_run : (d : Distance) (f : Frame) (cs ds : List ChainCode) → Plain f (cs ++ ds) → Plain f (up_to d cs ++ ds)
plain_run d f [] ds h = h
plain_run d f (c ∷ cs) ds h = go (reached d c.code.code_offset) (plain_run d f cs ds h.2)
  where
    go : (t : Bool) → Plain f (up_to d cs ++ ds) → Plain f (pick t (c ∷ up_to d cs) (up_to d cs) ++ ds)
    go true k = (h.0, h.1, k)
    go false k = k

pub plain_ran : (d : Distance) (a : Arrays) → Plain a.found.frame (joined_of a) → Plain a.found.frame (ran_of d a)
unfolding joined_of
plain_ran d a h = plain_run d a.found.frame (codes_in true a.found) (outer_codes a.outer) h

-- ---- the operations of the chain

ops_from : (f : Frame) (p : ℕ) (t b : Bool) (cs : List UnwindCode) (ds : List ChainCode)
    → ops_of (codes_from f p t b cs ++ ds) ≡ operations_of cs ++ ops_of ds
ops_from f p t b [] ds = refl
ops_from f p t b (c ∷ cs) ds = ap (λ r. c.operation ∷ r) (ops_from f p t false cs ds)

ops_outer : (xs : List CodeArray) → ops_of (outer_codes xs) ≡ operations_in xs
ops_outer [] = refl
ops_outer (x ∷ xs) =
    ops_from x.frame x.prolog false true x.codes (outer_codes xs) ∙ ap (λ r. operations_of x.codes ++ r) (ops_outer xs)

pub ops_joined : (a : Arrays) → ops_of (joined_of a) ≡ operations_in (a.found ∷ a.outer)
unfolding joined_of
ops_joined a =
    ops_from a.found.frame a.found.prolog true true a.found.codes (outer_codes a.outer)
    ∙ ap (λ r. operations_of a.found.codes ++ r) (ops_outer a.outer)

-- what is among the operations that have run is among all
some_run : (p : UnwindOperation → Bool) (d : Distance) (cs ds : List ChainCode) → some p (ops_of (up_to d cs ++ ds)) ≡ true
    → some p (ops_of (cs ++ ds)) ≡ true
some_run p d [] ds e = e
some_run p d (c ∷ cs) ds e = go (reached d c.code.code_offset) (some_run p d cs ds) e
  where
    o : UnwindOperation
    o = c.code.operation

    go : (t : Bool) → (some p (ops_of (up_to d cs ++ ds)) ≡ true → some p (ops_of (cs ++ ds)) ≡ true)
        → some p (ops_of (pick t (c ∷ up_to d cs) (up_to d cs) ++ ds)) ≡ true → (p o || some p (ops_of (cs ++ ds))) ≡ true
    go true ih e = ⊎_elim (λ h. rw h) (λ h. right_true (p o) _ (ih h)) (either (p o) _ e)
    go false ih e = right_true (p o) _ (ih e)

pub some_ran : (p : UnwindOperation → Bool) (d : Distance) (a : Arrays) → some p (ops_of (ran_of d a)) ≡ true
    → some p (ops_of (joined_of a)) ≡ true
unfolding joined_of
some_ran p d a e = some_run p d (codes_in true a.found) (outer_codes a.outer) e
