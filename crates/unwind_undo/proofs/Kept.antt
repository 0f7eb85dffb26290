-- A register that no code names keeps its value, RSP and RIP aside.
-- Assumes nothing.
use Rattle.std.specs.Prelude.{Option, Some, None}
use mathlib.Core.Path.{◌≡◌, refl, ◌∙◌}
use mathlib.Core.List.{List, [], ◌∷◌}
use mathlib.Core.Bool.{Bool, true, false, ◌||◌}
use Prim.Native.Nat.{ℕ, ◌+◌, ◌-◌, ◌*◌, ◌^◌}
use native.Mathlib.Omega.{arith}
use lib.ListN.{get_or, set}
use lib.Dec.{leb, ltb, eqb}
use lib.Seq.{get_or-set_other}
use borrow.Author.Tests.{eqb-false}
use Rattle.answer.specs.Test.{pick}
use Rattle.unwind_operation.specs.declared.UnwindOperation.{UnwindOperation}
use Rattle.unwind_operation.specs.declared.UnwindOperation.TheVariants.{PushNonVolatile, Alloc, SetFPRegister, SaveNonVolatile, SaveXMM, Epilog, SaveXMM128, PushMachineFrame, Noop}
use Rattle.unwind_array.specs.Arrays.{Frame, ChainCode}
use Rattle.unwind_state.specs.State.{gpr, rsp, with_gpr, with_rsp, with_rip, with_xmm_low, with_xmm, Window, word_at}
use Rattle.unwind_state.specs.declared.State.{State}
use Rattle.unwind_undo.specs.Undo.{Undone, on, caller, lost, on_word, word, xmm_number, place_of, base_when_undone, undo_of, last_step, and_then, undo_from, unwind_of, framed_by}
use Rattle.unwind_undo.specs.Named.{names_gpr, names_xmm, any_of}

-- it holds of the registers that undoing comes to
pub data Keeps (P : State → Type 0) : Undone → Type 0 where
  keeps_on : {t : State} → P t → Keeps P (on t)
  keeps_caller : {t : State} → P t → Keeps P (caller t)
  keeps_lost : Keeps P lost

module _ (P : State → Type 0) where
  pick_keeps : (t : Bool) {u v : Undone} → Keeps P u → Keeps P v → Keeps P (pick t u v)
  pick_keeps true h i = h
  pick_keeps false h i = i

  word_keeps_by : (d : Option ℕ) (k : ℕ → Undone) → ((v : ℕ) → Keeps P (k v)) → Keeps P (on_word d k)
  word_keeps_by (Some v) k h = h v
  word_keeps_by None k h = keeps_lost

  word_keeps : (w : Window) (a : ℕ) (k : ℕ → Undone) → ((v : ℕ) → Keeps P (k v)) → Keeps P (word w a k)
  word_keeps w a k h = pick_keeps (ltb a (2 ^ 64)) (word_keeps_by (word_at w a) k h) keeps_lost

  -- it is kept by what an operation loads
  abbrev Loads : UnwindOperation → Type 0
  Loads (PushNonVolatile q) = (t : State) (v : ℕ) → P t → P (with_gpr t q.0 v)
  Loads (Alloc n) = Unit
  Loads SetFPRegister = Unit
  Loads (SaveNonVolatile q o) = (t : State) (v : ℕ) → P t → P (with_gpr t q.0 v)
  Loads (SaveXMM q o) = (t : State) (v : ℕ) → P t → P (with_xmm_low t (xmm_number q) v)
  Loads (Epilog a b) = Unit
  Loads (SaveXMM128 q o) = (t : State) (v u : ℕ) → P t → P (with_xmm t (xmm_number q) v u)
  Loads (PushMachineFrame code) = Unit
  Loads Noop = Unit

  module _ (at_rsp : (t : State) (a : ℕ) → P t → P (with_rsp t a)) (at_rip : (t : State) (a : ℕ) → P t → P (with_rip t a)) (stop : State)
      (framed : Bool) (w : Window) where
    base_keeps : (s : State) (f : Frame) (k : ℕ → Undone) → ((b : ℕ) → Keeps P (k b)) → Keeps P (base_when_undone stop framed s f k)
    base_keeps s f k h =
        pick_keeps (eqb f.register 0) (h (rsp s))
        (pick_keeps (leb f.offset (gpr s f.register)) (h (gpr s f.register - f.offset)) keeps_lost)

    undo_keeps : (f : Frame) (o : UnwindOperation) (s : State) → Loads o → P s → Keeps P (undo_of (base_when_undone stop framed) w f o s)
    unfolding undo_of
    undo_keeps f (PushNonVolatile q) s l p =
        word_keeps w (rsp s) _
        (λ v. pick_keeps (ltb (rsp (with_gpr s q.0 v) + 8) (2 ^ 64)) (keeps_on (at_rsp _ (rsp (with_gpr s q.0 v) + 8) (l s v p)))
        keeps_lost)
    undo_keeps f (Alloc n) s l p = pick_keeps (ltb (rsp s + n) (2 ^ 64)) (keeps_on (at_rsp s (rsp s + n) p)) keeps_lost
    undo_keeps f SetFPRegister s l p = pick_keeps (leb f.offset (gpr s f.register))
        (keeps_on (at_rsp s (gpr s f.register - f.offset) p)) keeps_lost
    undo_keeps f (SaveNonVolatile q o) s l p = base_keeps s f _ (λ b. word_keeps w (b + place_of o) _ (λ v. keeps_on (l s v p)))
    undo_keeps f (SaveXMM q o) s l p = base_keeps s f _ (λ b. word_keeps w (b + place_of o) _ (λ v. keeps_on (l s v p)))
    undo_keeps f (Epilog a b) s l p = keeps_on p
    undo_keeps f (SaveXMM128 q o) s l p =
        base_keeps s f _ (λ b. word_keeps w (b + place_of o) _ (λ v. word_keeps w (b + place_of o + 8) _ (λ u. keeps_on (l s v u p))))
    undo_keeps f (PushMachineFrame code) s l p =
        word_keeps w (rsp s + pick code 8 0) _
        (λ rip. word_keeps w (rsp s + pick code 8 0 + 24) _ (λ old. keeps_caller (at_rip _ rip (at_rsp s old p))))
    undo_keeps f Noop s l p = keeps_on p

    last_keeps : (s : State) → P s → Keeps P (last_step w s)
    unfolding last_step
    last_keeps s p = word_keeps w (rsp s) _
        (λ rip. pick_keeps (ltb (rsp s + 8) (2 ^ 64)) (keeps_caller (at_rip _ rip (at_rsp s (rsp s + 8) p))) keeps_lost)

    and_keeps : (u : Undone) (k : State → Undone) → Keeps P u → ((t : State) → P t → Keeps P (k t)) → Keeps P (and_then u k)
    and_keeps (on t) k (keeps_on h) i = i t h
    and_keeps (caller t) k h i = h
    and_keeps lost k h i = keeps_lost

    -- of every code
    abbrev LoadsAll : List ChainCode → Type 0
    LoadsAll [] = Unit
    LoadsAll (c ∷ cs) = Loads c.code.operation × LoadsAll cs

    undo_all_keeps : (cs : List ChainCode) (s : State) → LoadsAll cs → P s → Keeps P (undo_from (base_when_undone stop framed) w cs s)
    unfolding undo_from
    undo_all_keeps [] s l p = last_keeps s p
    undo_all_keeps (c ∷ cs) s l p =
        and_keeps (undo_of (base_when_undone stop framed) w c.frame c.code.operation s) _
        (undo_keeps c.frame c.code.operation s l.0 p)
        (λ t q. undo_all_keeps cs t l.1 q)

either : (a b : Bool) → a || b ≡ false → (a ≡ false) × (b ≡ false)
either true b e = let z : ◌≡◌ {A = ℕ} 0 1 = cc in absurd (omega arith)
either false b e = (refl, e)

-- Codes of which none names a register leave it.
module _ (P : State → Type 0) (names : UnwindOperation → Bool)
    (loads : (o : UnwindOperation) → names o ≡ false → Loads P o)
    (at_rsp : (t : State) (a : ℕ) → P t → P (with_rsp t a)) (at_rip : (t : State) (a : ℕ) → P t → P (with_rip t a)) where
  all_load : (stop : State) (framed : Bool) (w : Window) (cs : List ChainCode) → any_of names cs ≡ false
      → LoadsAll P at_rsp at_rip stop framed w cs
  all_load stop framed w [] e = tt
  all_load stop framed w (c ∷ cs) e =
      let h = either (names c.code.operation) (any_of names cs) e in
      (loads c.code.operation h.0, all_load stop framed w cs h.1)

  pub unwind_keeps : (w : Window) (cs : List ChainCode) (s : State) → any_of names cs ≡ false → P s
      → Keeps P (unwind_of base_when_undone w cs s)
  unfolding unwind_of
  unwind_keeps w cs s e p = undo_all_keeps P at_rsp at_rip s (framed_by cs) w cs s (all_load s (framed_by cs) w cs e) p

-- a general register as it was
abbrev pub SameGpr : ℕ → State → State → Type 0
SameGpr r s t = gpr t r ≡ gpr s r

module _ (r : ℕ) (s : State) where
  other_gpr : (q : ℕ) → eqb r q ≡ false → (t : State) (v : ℕ) → SameGpr r s t → SameGpr r s (with_gpr t q v)
  other_gpr q e t v p = get_or-set_other t.gpr q r v 0 (eqb-false r q e) ∙ p

  gpr_loads : (o : UnwindOperation) → names_gpr r o ≡ false → Loads (SameGpr r s) o
  gpr_loads (PushNonVolatile q) e = other_gpr q.0 e
  gpr_loads (Alloc n) e = tt
  gpr_loads SetFPRegister e = tt
  gpr_loads (SaveNonVolatile q o) e = other_gpr q.0 e
  gpr_loads (SaveXMM q o) e = λ t v p. p
  gpr_loads (Epilog a b) e = tt
  gpr_loads (SaveXMM128 q o) e = λ t v u p. p
  gpr_loads (PushMachineFrame code) e = tt
  gpr_loads Noop e = tt

-- the two words of an XMM register as they were
pub record SameXmm (n : ℕ) (s t : State) : Type 0 where
  pub low : get_or t.xmm (2 * n) 0 ≡ get_or s.xmm (2 * n) 0
  pub high : get_or t.xmm (2 * n + 1) 0 ≡ get_or s.xmm (2 * n + 1) 0

module _ (n : ℕ) (s : State) where
  other_low : (q : ℕ) → eqb n q ≡ false → (t : State) (v : ℕ) → SameXmm n s t → SameXmm n s (with_xmm_low t q v)
  other_low q e t v p =
      let ne = eqb-false n q e in
      record {
        low = get_or-set_other t.xmm (2 * q) (2 * n) v 0 (λ h. ne (omega arith)) ∙ p.low;
        high = get_or-set_other t.xmm (2 * q) (2 * n + 1) v 0 (λ h. omega arith) ∙ p.high;
      }

  other_xmm : (q : ℕ) → eqb n q ≡ false → (t : State) (v u : ℕ) → SameXmm n s t → SameXmm n s (with_xmm t q v u)
  other_xmm q e t v u p =
      let ne = eqb-false n q e in
      let h = other_low q e t v p in
      record {
        low = get_or-set_other (set t.xmm (2 * q) v) (2 * q + 1) (2 * n) u 0 (λ h. omega arith) ∙ h.low;
        high = get_or-set_other (set t.xmm (2 * q) v) (2 * q + 1) (2 * n + 1) u 0 (λ h. ne (omega arith)) ∙ h.high;
      }

  xmm_loads : (o : UnwindOperation) → names_xmm n o ≡ false → Loads (SameXmm n s) o
  xmm_loads (PushNonVolatile q) e = λ t v p. record { low = p.low; high = p.high }
  xmm_loads (Alloc m) e = tt
  xmm_loads SetFPRegister e = tt
  xmm_loads (SaveNonVolatile q o) e = λ t v p. record { low = p.low; high = p.high }
  xmm_loads (SaveXMM q o) e = other_low (xmm_number q) e
  xmm_loads (Epilog a b) e = tt
  xmm_loads (SaveXMM128 q o) e = other_xmm (xmm_number q) e
  xmm_loads (PushMachineFrame code) e = tt
  xmm_loads Noop e = tt

-- A general register that no undone code names keeps its value, RSP aside.
pub gpr_kept : (w : Window) (cs : List ChainCode) (s : State) (r : ℕ) → (r ≡ 4 → ⊥) → any_of (names_gpr r) cs ≡ false
    → Keeps (SameGpr r s) (unwind_of base_when_undone w cs s)
gpr_kept w cs s r ne e =
    unwind_keeps (SameGpr r s) (names_gpr r) (gpr_loads r s) (λ t a p. get_or-set_other t.gpr 4 r a 0 ne ∙ p) (λ t a p. p) w cs s e refl

-- So does an XMM register.
pub xmm_kept_lem : (w : Window) (cs : List ChainCode) (s : State) (n : ℕ) → any_of (names_xmm n) cs ≡ false
    → Keeps (SameXmm n s) (unwind_of base_when_undone w cs s)
xmm_kept_lem w cs s n e =
    unwind_keeps (SameXmm n s) (names_xmm n) (xmm_loads n s)
    (λ t a p. record { low = p.low; high = p.high })
    (λ t a p. record { low = p.low; high = p.high })
    w cs s e (record { low = refl; high = refl })
