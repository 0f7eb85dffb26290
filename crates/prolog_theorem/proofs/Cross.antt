-- From the conditions of a strict prolog, which are said of the whole chain, to the form that holds of every later part of it.
-- Assumes nothing.
use mathlib.Core.Path.{◌≡◌, refl, sym, ap, ◌∙◌}
use mathlib.Core.Logic.{◌≢◌, ◌⊎◌, inl, inr, ⊎_elim}
use mathlib.Core.Bool.{Bool, true, false, not, ◌&&◌, ◌||◌}
use mathlib.Core.List.{List, [], ◌∷◌}
use Prim.Native.Nat.{ℕ, ◌+◌, ◌≤◌}
use native.Mathlib.Omega.{arith}
use lib.Dec.{leb, ltb, eqb}
use borrow.Author.Tests.{ltb-true, leb-true, eqb-true, eqb-false, not-true}
use Rattle.unwind_operation.specs.declared.UnwindOperation.{UnwindOperation}
use Rattle.unwind_operation.specs.declared.UnwindOperation.TheVariants.{PushNonVolatile, Alloc, SetFPRegister, SaveNonVolatile, SaveXMM}
use Rattle.unwind_operation.specs.declared.UnwindOperation.TheVariants.{Epilog, SaveXMM128, PushMachineFrame, Noop}
use Rattle.unwind_undo.specs.Undo.{place_of, is_set_frame}
use Rattle.strict_prolog.specs.Strict.{every, some, ranked, may_precede, descends, strict_kind, same_truth, pushes, spares_rsp}
use Rattle.strict_prolog.specs.Strict.{Place, places_of, apart, pairwise_apart, allocated, is_machine_frame, in_allocation, in_home}
use Rattle.strict_prolog.specs.Strict as strict
use Rattle.prolog_machine.specs.Stop.{NotIn, SmallOperation}
use Rattle.prolog_theorem.proofs.Acts.{frame, framed, owed, places, pushed, taken, phase, Good}
use Rattle.prolog_theorem.proofs.Acts as acts
use Rattle.prolog_theorem.proofs.Base.{After}
use Rattle.prolog_theorem.proofs.Codes.{acts_in}

-- ---- tests

pub both : (a b : Bool) → (a && b) ≡ true → (a ≡ true) × (b ≡ true)
both true b e = (refl, e)
both false b e = let z : ◌≡◌ {A = ℕ} 0 1 = cc in absurd (omega arith)

pub either : (a b : Bool) → (a || b) ≡ true → (a ≡ true) ⊎ (b ≡ true)
either true b e = inl refl
either false b e = inr e

pub right_true : (a b : Bool) → b ≡ true → (a || b) ≡ true
right_true true b e = refl
right_true false b e = e

pub not_both : {A : Type 0} (b : Bool) → b ≡ true → b ≡ false → A
not_both b e h = let z : ◌≡◌ {A = ℕ} 0 1 = cc in absurd (omega arith)

-- ---- order

abbrev first : List ℕ → ℕ
first [] = 0
first (a ∷ rs) = a

below : (a b : ℕ) → may_precede a b ≡ true → b ≤ a
below a b e =
    ⊎_elim (λ h. omega (arith, ltb-true b a h)) (λ h. omega (arith, eqb-true a b (both (eqb a b) _ h).0))
    (either (ltb b a) (eqb a b && not (eqb a 0 || eqb a 3)) e)

first_le : (a : ℕ) (rs : List ℕ) → descends (a ∷ rs) ≡ true → first rs ≤ a
first_le a [] e = omega arith
first_le a (b ∷ rs) e = below a b (both (may_precede a b) _ e).0

first_below_frame : (rs : List ℕ) → descends (3 ∷ rs) ≡ true → first rs ≤ 2
first_below_frame [] e = omega arith
first_below_frame (b ∷ rs) e =
    ⊎_elim (λ h. omega (arith, ltb-true b 3 h)) (λ h. not_both false (both (eqb 3 b) false h).1 refl)
    (either (ltb b 3) (eqb 3 b && false) (both (may_precede 3 b) _ e).0)

none_below : (rs : List ℕ) → descends (0 ∷ rs) ≡ true → rs ≡ []
none_below [] e = refl
none_below (b ∷ rs) e =
    ⊎_elim (λ h. absurd (omega (arith, ltb-true b 0 h))) (λ h. not_both false (both (eqb 0 b) false h).1 refl)
    (either (ltb b 0) (eqb 0 b && false) (both (may_precede 0 b) _ e).0)

descends_tail : (a : ℕ) (rs : List ℕ) → descends (a ∷ rs) ≡ true → descends rs ≡ true
descends_tail a [] e = refl
descends_tail a (b ∷ rs) e = (both (may_precede a b) _ e).1

order_tail : (o : UnwindOperation) (os : List UnwindOperation) → descends (ranked (o ∷ os)) ≡ true → descends (ranked os) ≡ true
order_tail (PushNonVolatile r) os e = descends_tail 1 (ranked os) e
order_tail (Alloc n) os e = descends_tail 2 (ranked os) e
order_tail SetFPRegister os e = descends_tail 3 (ranked os) e
order_tail (SaveNonVolatile r o) os e = descends_tail 4 (ranked os) e
order_tail (SaveXMM r o) os e = descends_tail 4 (ranked os) e
order_tail (Epilog x y) os e = e
order_tail (SaveXMM128 r o) os e = descends_tail 4 (ranked os) e
order_tail (PushMachineFrame c) os e = descends_tail 0 (ranked os) e
order_tail Noop os e = e

phase_one : (o : UnwindOperation) (os : List UnwindOperation) → strict_kind o ≡ true → phase (acts_in os) ≡ first (ranked os)
    → phase (acts_in (o ∷ os)) ≡ first (ranked (o ∷ os))
phase_one (PushNonVolatile r) os k h = refl
phase_one (Alloc n) os k h = refl
phase_one SetFPRegister os k h = refl
phase_one (SaveNonVolatile r o) os k h = refl
phase_one (SaveXMM r o) os k h = not_both false k refl
phase_one (Epilog x y) os k h = h
phase_one (SaveXMM128 r o) os k h = refl
phase_one (PushMachineFrame c) os k h = refl
phase_one Noop os k h = h

phase_is : (os : List UnwindOperation) → every strict_kind os ≡ true → phase (acts_in os) ≡ first (ranked os)
phase_is [] k = refl
phase_is (o ∷ os) k = let h = both (strict_kind o) _ k in phase_one o os h.0 (phase_is os h.1)

none_one : (o : UnwindOperation) (os : List UnwindOperation) → ranked (o ∷ os) ≡ [] → (ranked os ≡ [] → acts_in os ≡ [])
    → acts_in (o ∷ os) ≡ []
none_one (PushNonVolatile r) os e h = cc
none_one (Alloc n) os e h = cc
none_one SetFPRegister os e h = cc
none_one (SaveNonVolatile r o) os e h = cc
none_one (SaveXMM r o) os e h = cc
none_one (Epilog x y) os e h = h e
none_one (SaveXMM128 r o) os e h = cc
none_one (PushMachineFrame c) os e h = cc
none_one Noop os e h = h e

none_is : (os : List UnwindOperation) → ranked os ≡ [] → acts_in os ≡ []
none_is [] e = refl
none_is (o ∷ os) e = none_one o os e (none_is os)

-- ---- sums, and what is among operations

taken_one : (o : UnwindOperation) (os : List UnwindOperation) → taken (acts_in os) ≡ allocated os → taken (acts_in (o ∷ os)) ≡ allocated (o ∷ os)
taken_one (PushNonVolatile r) os h = h
taken_one (Alloc n) os h = omega arith
taken_one SetFPRegister os h = h
taken_one (SaveNonVolatile r o) os h = h
taken_one (SaveXMM r o) os h = h
taken_one (Epilog x y) os h = h
taken_one (SaveXMM128 r o) os h = h
taken_one (PushMachineFrame c) os h = h
taken_one Noop os h = h

taken_is : (os : List UnwindOperation) → taken (acts_in os) ≡ allocated os
taken_is [] = refl
taken_is (o ∷ os) = taken_one o os (taken_is os)

pushed_one : (o : UnwindOperation) (os : List UnwindOperation) → pushed (acts_in os) ≡ strict.pushed os
    → pushed (acts_in (o ∷ os)) ≡ strict.pushed (o ∷ os)
pushed_one (PushNonVolatile r) os h = omega arith
pushed_one (Alloc n) os h = h
pushed_one SetFPRegister os h = h
pushed_one (SaveNonVolatile r o) os h = h
pushed_one (SaveXMM r o) os h = h
pushed_one (Epilog x y) os h = h
pushed_one (SaveXMM128 r o) os h = h
pushed_one (PushMachineFrame c) os h = h
pushed_one Noop os h = h

pushed_is : (os : List UnwindOperation) → pushed (acts_in os) ≡ strict.pushed os
pushed_is [] = refl
pushed_is (o ∷ os) = pushed_one o os (pushed_is os)

framed_one : (o : UnwindOperation) (os : List UnwindOperation) → framed (acts_in os) ≡ some is_set_frame os
    → framed (acts_in (o ∷ os)) ≡ some is_set_frame (o ∷ os)
framed_one (PushNonVolatile r) os h = h
framed_one (Alloc n) os h = h
framed_one SetFPRegister os h = refl
framed_one (SaveNonVolatile r o) os h = h
framed_one (SaveXMM r o) os h = h
framed_one (Epilog x y) os h = h
framed_one (SaveXMM128 r o) os h = h
framed_one (PushMachineFrame c) os h = h
framed_one Noop os h = h

pub framed_is : (os : List UnwindOperation) → framed (acts_in os) ≡ some is_set_frame os
framed_is [] = refl
framed_is (o ∷ os) = framed_one o os (framed_is os)

owed_one : (fr : ℕ) (o : UnwindOperation) (os : List UnwindOperation) → (some (pushes fr) os ≡ true → ¬ NotIn fr (owed (acts_in os)))
    → some (pushes fr) (o ∷ os) ≡ true → ¬ NotIn fr (owed (acts_in (o ∷ os)))
owed_one fr (PushNonVolatile r) os h e n =
    ⊎_elim (λ k. n.0 (sym (eqb-true r.0 fr k))) (λ k. h k n.1) (either (eqb r.0 fr) (some (pushes fr) os) e)
owed_one fr (Alloc i) os h e n = h e n
owed_one fr SetFPRegister os h e n = h e n
owed_one fr (SaveNonVolatile r o) os h e n = h e n.1
owed_one fr (SaveXMM r o) os h e n = h e n
owed_one fr (Epilog x y) os h e n = h e n
owed_one fr (SaveXMM128 r o) os h e n = h e n
owed_one fr (PushMachineFrame c) os h e n = h e n
owed_one fr Noop os h e n = h e n

owed_is : (fr : ℕ) (os : List UnwindOperation) → some (pushes fr) os ≡ true → ¬ NotIn fr (owed (acts_in os))
owed_is fr [] e n = not_both false e refl
owed_is fr (o ∷ os) e n = owed_one fr o os (owed_is fr os) e n

-- ---- places

abbrev Outside : ℕ → ℕ → List Place → Type 0
Outside start width ps = every (apart (record { start = start; width = width })) ps ≡ true

not_at : (s w x p v y : ℕ) → (leb (s + w) p || leb (p + v) s) ≡ true → s ≤ x → x + 8 ≤ s + w → p ≤ y → y + 8 ≤ p + v → x ≢ y
not_at s w x p v y e lo hi ylo yhi z =
    ⊎_elim (λ h. let g = leb-true (s + w) p h in omega arith) (λ h. let g = leb-true (p + v) s h in omega arith)
    (either (leb (s + w) p) (leb (p + v) s) e)

outside_one : (s w x : ℕ) (o : UnwindOperation) (os : List UnwindOperation) → s ≤ x → x + 8 ≤ s + w → strict_kind o ≡ true
    → (Outside s w (places_of os) → NotIn x (places (acts_in os))) → Outside s w (places_of (o ∷ os)) → NotIn x (places (acts_in (o ∷ os)))
outside_one s w x (PushNonVolatile r) os lo hi k h e = h e
outside_one s w x (Alloc n) os lo hi k h e = h e
outside_one s w x SetFPRegister os lo hi k h e = h e
outside_one s w x (SaveNonVolatile r o) os lo hi k h e =
    let p = both (leb (s + w) (place_of o) || leb (place_of o + 8) s) _ e in
    (not_at s w x (place_of o) 8 (place_of o) p.0 lo hi (omega arith) (omega arith), h p.1)
outside_one s w x (SaveXMM r o) os lo hi k h e = not_both false k refl
outside_one s w x (Epilog a b) os lo hi k h e = h e
outside_one s w x (SaveXMM128 r o) os lo hi k h e =
    let p = both (leb (s + w) (place_of o) || leb (place_of o + 16) s) _ e in (
      not_at s w x (place_of o) 16 (place_of o) p.0 lo hi (omega arith) (omega arith),
      (not_at s w x (place_of o) 16 (place_of o + 8) p.0 lo hi (omega arith) (omega arith), h p.1),
    )
outside_one s w x (PushMachineFrame c) os lo hi k h e = h e
outside_one s w x Noop os lo hi k h e = h e

outside : (s w x : ℕ) (os : List UnwindOperation) → s ≤ x → x + 8 ≤ s + w → every strict_kind os ≡ true → Outside s w (places_of os)
    → NotIn x (places (acts_in os))
outside s w x [] lo hi k e = tt
outside s w x (o ∷ os) lo hi k e =
    let h = both (strict_kind o) _ k in
    outside_one s w x o os lo hi h.0 (outside s w x os lo hi h.1) e

abbrev Inside : List UnwindOperation → List Place → Type 0
Inside W ps = every (λ p. in_allocation W p || in_home W p) ps ≡ true

-- a word of a place that lies inside
place : (W : List UnwindOperation) (K A s w x : ℕ) → A ≡ allocated W → K ≡ strict.pushed W
    → (in_allocation W (record { start = s; width = w }) || in_home W (record { start = s; width = w })) ≡ true → s ≤ x → x + 8 ≤ s + w
    → acts.Place (some is_machine_frame W) K A x
place W K A s w x eA eK e lo hi =
    ⊎_elim (λ h. let g = leb-true (s + w) (allocated W) h in inl (omega arith))
    (λ h.
    let p = both (not (some is_machine_frame W)) _ h in
    let q = both (leb (allocated W + strict.pushed W + 8) s) _ p.1 in
    let g = leb-true (allocated W + strict.pushed W + 8) s q.0 in
    let g' = leb-true (s + w) (allocated W + strict.pushed W + 40) q.1 in
    inr (not-true (some is_machine_frame W) p.0, omega arith, omega arith))
    (either (leb (s + w) (allocated W)) (in_home W (record { start = s; width = w })) e)

-- ---- what holds of every later part of the operations `W` of a chain

abbrev pub SmallIn : List UnwindOperation → Type 0
SmallIn [] = Unit {0}
SmallIn (o ∷ os) = SmallOperation o × SmallIn os

-- sums over the part are sums over the chain, once what they count has run
record Sums (W : List UnwindOperation) (fr : ℕ) (os : List UnwindOperation) : Type 0 where
  allocation : first (ranked os) ≡ 4 → taken (acts_in os) ≡ allocated W
  setting : first (ranked os) ≡ 4 → framed (acts_in os) ≡ not (eqb fr 0)
  pushing : 2 ≤ first (ranked os) → pushed (acts_in os) ≡ strict.pushed W
  frame : 2 ≤ first (ranked os) → eqb fr 0 ≡ false → some (pushes fr) os ≡ true

pub record Facts (W : List UnwindOperation) (fr : ℕ) (os : List UnwindOperation) : Type 0 where
  order : descends (ranked os) ≡ true
  kinds : every strict_kind os ≡ true
  spare : every spares_rsp os ≡ true
  small : SmallIn os
  apart : pairwise_apart (places_of os) ≡ true
  inside : Inside W (places_of os)
  named : some is_set_frame os ≡ true → eqb fr 0 ≡ false
  trapped : some is_machine_frame os ≡ true → some is_machine_frame W ≡ true
  sums : Sums W fr os

none_four : {A : Type 0} (k : ℕ) (os : List UnwindOperation) → k ≤ 3 → first (ranked os) ≤ k → first (ranked os) ≡ 4 → A
none_four k os h g e = absurd (omega arith)

sums_tail : (W : List UnwindOperation) (fr : ℕ) (o : UnwindOperation) (os : List UnwindOperation) → descends (ranked (o ∷ os)) ≡ true
    → Sums W fr (o ∷ os) → Sums W fr os
sums_tail W fr (PushNonVolatile r) os d s =
    let h = first_le 1 (ranked os) d in
    record {
      allocation = λ e. absurd (omega arith);
      setting = λ e. absurd (omega arith);
      pushing = λ e. absurd (omega arith);
      frame = λ e n. absurd (omega arith);
    }
sums_tail W fr (Alloc n) os d s =
    let h = first_le 2 (ranked os) d in
    record {
      allocation = λ e. absurd (omega arith);
      setting = λ e. absurd (omega arith);
      pushing = λ e. s.pushing (omega arith);
      frame = λ e n. s.frame (omega arith) n;
    }
sums_tail W fr SetFPRegister os d s =
    let h = first_below_frame (ranked os) d in
    record {
      allocation = λ e. absurd (omega arith);
      setting = λ e. absurd (omega arith);
      pushing = λ e. s.pushing (omega arith);
      frame = λ e n. s.frame (omega arith) n;
    }
sums_tail W fr (SaveNonVolatile r o) os d s =
    record {
      allocation = λ e. s.allocation refl;
      setting = λ e. s.setting refl;
      pushing = λ e. s.pushing (omega arith);
      frame = λ e n. s.frame (omega arith) n;
    }
sums_tail W fr (SaveXMM r o) os d s =
    record {
      allocation = λ e. s.allocation refl;
      setting = λ e. s.setting refl;
      pushing = λ e. s.pushing (omega arith);
      frame = λ e n. s.frame (omega arith) n;
    }
sums_tail W fr (Epilog x y) os d s =
    record { allocation = s.allocation; setting = s.setting; pushing = s.pushing; frame = s.frame }
sums_tail W fr (SaveXMM128 r o) os d s =
    record {
      allocation = λ e. s.allocation refl;
      setting = λ e. s.setting refl;
      pushing = λ e. s.pushing (omega arith);
      frame = λ e n. s.frame (omega arith) n;
    }
sums_tail W fr (PushMachineFrame c) os d s =
    let h : first (ranked os) ≡ 0 = ap first (none_below (ranked os) d) in
    record {
      allocation = λ e. absurd (omega arith);
      setting = λ e. absurd (omega arith);
      pushing = λ e. absurd (omega arith);
      frame = λ e n. absurd (omega arith);
    }
sums_tail W fr Noop os d s =
    record { allocation = s.allocation; setting = s.setting; pushing = s.pushing; frame = s.frame }

apart_tail : (o : UnwindOperation) (os : List UnwindOperation) → pairwise_apart (places_of (o ∷ os)) ≡ true → pairwise_apart (places_of os) ≡ true
apart_tail (PushNonVolatile r) os e = e
apart_tail (Alloc n) os e = e
apart_tail SetFPRegister os e = e
apart_tail (SaveNonVolatile r o) os e = (both (every (strict.apart (record { start = place_of o; width = 8 })) (places_of os)) _ e).1
apart_tail (SaveXMM r o) os e = (both (every (strict.apart (record { start = place_of o; width = 8 })) (places_of os)) _ e).1
apart_tail (Epilog x y) os e = e
apart_tail (SaveXMM128 r o) os e = (both (every (strict.apart (record { start = place_of o; width = 16 })) (places_of os)) _ e).1
apart_tail (PushMachineFrame c) os e = e
apart_tail Noop os e = e

inside_tail : (W : List UnwindOperation) (o : UnwindOperation) (os : List UnwindOperation) → Inside W (places_of (o ∷ os))
    → Inside W (places_of os)
inside_tail W (PushNonVolatile r) os e = e
inside_tail W (Alloc n) os e = e
inside_tail W SetFPRegister os e = e
inside_tail W (SaveNonVolatile r o) os e =
    let p : Place = record { start = place_of o; width = 8 } in (both (in_allocation W p || in_home W p) _ e).1
inside_tail W (SaveXMM r o) os e =
    let p : Place = record { start = place_of o; width = 8 } in (both (in_allocation W p || in_home W p) _ e).1
inside_tail W (Epilog x y) os e = e
inside_tail W (SaveXMM128 r o) os e =
    let p : Place = record { start = place_of o; width = 16 } in (both (in_allocation W p || in_home W p) _ e).1
inside_tail W (PushMachineFrame c) os e = e
inside_tail W Noop os e = e

tail : (W : List UnwindOperation) (fr : ℕ) (o : UnwindOperation) (os : List UnwindOperation) → Facts W fr (o ∷ os) → Facts W fr os
tail W fr o os h =
    record {
      order = order_tail o os h.order;
      kinds = (both (strict_kind o) _ h.kinds).1;
      spare = (both (spares_rsp o) _ h.spare).1;
      small = h.small.1;
      apart = apart_tail o os h.apart;
      inside = inside_tail W o os h.inside;
      named = λ e. h.named (right_true (is_set_frame o) _ e);
      trapped = λ e. h.trapped (right_true (is_machine_frame o) _ e);
      sums = sums_tail W fr o os h.order h.sums;
    }

-- ---- the crossing

not_four : (r : ℕ) → not (eqb r 4) ≡ true → r ≢ 4
not_four r e = eqb-false r 4 (not-true (eqb r 4) e)

cross_one : (W : List UnwindOperation) (fr : ℕ) (o : UnwindOperation) (os : List UnwindOperation) → Facts W fr (o ∷ os)
    → Good fr (some is_machine_frame W) (acts_in os) × After fr (acts_in os)
    → Good fr (some is_machine_frame W) (acts_in (o ∷ os)) × After fr (acts_in (o ∷ os))
cross_one W fr (PushNonVolatile r) os h g =
    let p = phase_is os (both true _ h.kinds).1 in
    let b = first_le 1 (ranked os) h.order in
    ((omega arith, not_four r.0 (both (not (eqb r.0 4)) _ h.spare).0, h.small.0, g.0), g.1)
cross_one W fr (Alloc n) os h g =
    let p = phase_is os (both true _ h.kinds).1 in
    let b = first_le 2 (ranked os) h.order in
    ((omega arith, g.0), g.1)
cross_one W fr SetFPRegister os h g =
    let p = phase_is os (both true _ h.kinds).1 in
    let b = first_below_frame (ranked os) h.order in
    ((omega arith, owed_is fr os (h.sums.frame (omega arith) (h.named refl)), g.0), g.1)
cross_one W fr (SaveNonVolatile r o) os h g =
    let s : ℕ = place_of o in
    let p : Place = record { start = s; width = 8 } in
    let ins = (both (in_allocation W p || in_home W p) _ h.inside).0 in
    let out = (both (every (strict.apart p) (places_of os)) _ h.apart).0 in
    let ks = (both true _ h.kinds).1 in (
      (
        not_four r.0 (both (not (eqb r.0 4)) _ h.spare).0,
        h.small.0,
        place W (pushed (acts_in os)) (taken (acts_in os)) s 8 s (h.sums.allocation refl) (h.sums.pushing (omega arith)) ins (omega arith) (omega arith),
        outside s 8 s os (omega arith) (omega arith) ks out,
        g.0,
      ),
      (h.sums.setting refl, g.1),
    )
cross_one W fr (SaveXMM r o) os h g = not_both false h.kinds refl
cross_one W fr (Epilog x y) os h g = g
cross_one W fr (SaveXMM128 r o) os h g =
    let s : ℕ = place_of o in
    let p : Place = record { start = s; width = 16 } in
    let ins = (both (in_allocation W p || in_home W p) _ h.inside).0 in
    let out = (both (every (strict.apart p) (places_of os)) _ h.apart).0 in
    let ks = (both true _ h.kinds).1 in
    let eA = h.sums.allocation refl in
    let eK = h.sums.pushing (omega arith) in (
      (
        h.small.0,
        (
          place W (pushed (acts_in os)) (taken (acts_in os)) s 16 s eA eK ins (omega arith) (omega arith),
          place W (pushed (acts_in os)) (taken (acts_in os)) s 16 (s + 8) eA eK ins (omega arith) (omega arith),
        ),
        (outside s 16 s os (omega arith) (omega arith) ks out, outside s 16 (s + 8) os (omega arith) (omega arith) ks out),
        g.0,
      ),
      (h.sums.setting refl, g.1),
    )
cross_one W fr (PushMachineFrame c) os h g = ((none_is os (none_below (ranked os) h.order), h.trapped refl), tt)
cross_one W fr Noop os h g = not_both false h.kinds refl

pub cross : (W : List UnwindOperation) (fr : ℕ) (os : List UnwindOperation) → Facts W fr os
    → Good fr (some is_machine_frame W) (acts_in os) × After fr (acts_in os)
cross W fr [] h = (tt, tt)
cross W fr (o ∷ os) h = cross_one W fr o os h (cross W fr os (tail W fr o os h))

-- ---- from the strict check

same_truth_lem : (a b : Bool) → same_truth a b ≡ true → b ≡ a
same_truth_lem true b e = e
same_truth_lem false b e = not-true b e

-- a list of operations as the strict check wants it, whatever arrays it came from
pub record Checked (fr : ℕ) (W : List UnwindOperation) : Type 0 where
  pub order : descends (ranked W) ≡ true
  pub kinds : every strict_kind W ≡ true
  pub spare : every spares_rsp W ≡ true
  pub apart : pairwise_apart (places_of W) ≡ true
  pub inside : every (λ p. in_allocation W p || in_home W p) (places_of W) ≡ true
  pub named : same_truth (not (eqb fr 0)) (some is_set_frame W) ≡ true
  pub pushed : (eqb fr 0 || some (pushes fr) W) ≡ true

pub crossed : (W : List UnwindOperation) (fr : ℕ) → Checked fr W → SmallIn W
    → Good fr (some is_machine_frame W) (acts_in W) × After fr (acts_in W)
crossed W fr h small =
    let named : some is_set_frame W ≡ not (eqb fr 0) = same_truth_lem (not (eqb fr 0)) (some is_set_frame W) h.named in
    cross W fr W
    (record {
      order = h.order;
      kinds = h.kinds;
      spare = h.spare;
      small = small;
      apart = h.apart;
      inside = h.inside;
      named = λ e. not-true (eqb fr 0) (sym named ∙ e);
      trapped = λ e. e;
      sums =
          record {
            allocation = λ e. taken_is W;
            setting = λ e. framed_is W ∙ named;
            pushing = λ e. pushed_is W;
            frame =
                λ e n. ⊎_elim (λ y. not_both (eqb fr 0) y n) (λ y. y) (either (eqb fr 0) (some (pushes fr) W) h.pushed);
          };
    })
