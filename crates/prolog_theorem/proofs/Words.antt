-- The words that acts put down are still there at the end: no act writes where an earlier one did, nor on the caller's words.
-- Assumes nothing.
use Rattle.std.specs.Prelude.{Some}
use mathlib.Core.Path.{◌≡◌, refl, sym, ap, ◌∙◌}
use mathlib.Core.Logic.{◌≢◌, ◌⊎◌, inl, inr, ⊎_elim}
use mathlib.Core.Bool.{Bool, true, false}
use mathlib.Core.List.{List, [], ◌∷◌}
use Prim.Native.Nat.{ℕ, ◌+◌, ◌-◌, ◌≤◌, ◌<◌}
use native.Mathlib.Omega.{arith}
use lib.ListN.{length}
use Rattle.unwind_array.specs.Arrays.{Frame}
use Rattle.unwind_state.specs.State.{gpr, Window, word_at}
use Rattle.prolog_machine.specs.Machine.{Memory, Machine, rsp_of, write, xmm_low, xmm_high, Entry, error_bytes, push_frame}
use Rattle.prolog_machine.specs.Stop.{NotIn, Holds}
use Rattle.prolog_theorem.proofs.Acts.{Act, push, alloc, frame, save, save_xmm, trap, acts, places, pushed}
use Rattle.prolog_theorem.proofs.Acts.{taken, dropped, phase, Place, Good, ActsFit, write_same, write_other, push_rsp}
use Rattle.prolog_theorem.proofs.Runs.{size_is, rsp_is}

abbrev pub Distinct : List ℕ → Type 0
Distinct [] = Unit {0}
Distinct (x ∷ xs) = NotIn x xs × Distinct xs

-- the words that tell the caller once acts have run
abbrev pub needs : Entry → Frame → List Act → Machine → List ℕ
needs entry f [] m = rsp_of m ∷ []
needs entry f (push r ∷ cs) m = (rsp_of (acts entry f cs m) - 8) ∷ needs entry f cs m
needs entry f (alloc n ∷ cs) m = needs entry f cs m
needs entry f (frame ∷ cs) m = needs entry f cs m
needs entry f (save r o ∷ cs) m = (rsp_of (acts entry f cs m) + o) ∷ needs entry f cs m
needs entry f (save_xmm x o ∷ cs) m = (rsp_of (acts entry f cs m) + o) ∷ (rsp_of (acts entry f cs m) + o + 8) ∷ needs entry f cs m
needs entry f (trap e ∷ cs) m =
    (rsp_of (push_frame entry e (acts entry f cs m)) + error_bytes e)
    ∷ (rsp_of (push_frame entry e (acts entry f cs m)) + error_bytes e + 24)
    ∷ []

untaken : (fr : ℕ) (mf : Bool) (cs : List Act) → Good fr mf cs → phase cs ≤ 1 → taken cs ≡ 0
untaken fr mf [] g h = refl
untaken fr mf (push r ∷ cs) g h = untaken fr mf cs g.3 g.0
untaken fr mf (alloc n ∷ cs) g h = absurd (omega arith)
untaken fr mf (frame ∷ cs) g h = absurd (omega arith)
untaken fr mf (save r o ∷ cs) g h = absurd (omega arith)
untaken fr mf (save_xmm x o ∷ cs) g h = absurd (omega arith)
untaken fr mf (trap e ∷ cs) g h = ap taken g.0

-- without a machine frame in the chain none of the acts is one
undropped : (fr : ℕ) (mf : Bool) (entry : Entry) (cs : List Act) → Good fr mf cs → mf ≡ false → dropped entry cs ≡ 0
undropped fr mf entry [] g h = refl
undropped fr mf entry (push r ∷ cs) g h = undropped fr mf entry cs g.3 h
undropped fr mf entry (alloc n ∷ cs) g h = undropped fr mf entry cs g.1 h
undropped fr mf entry (frame ∷ cs) g h = undropped fr mf entry cs g.2 h
undropped fr mf entry (save r o ∷ cs) g h = undropped fr mf entry cs g.4 h
undropped fr mf entry (save_xmm x o ∷ cs) g h = undropped fr mf entry cs g.3 h
undropped fr mf entry (trap e ∷ cs) g h =
    let q : true ≡ false = sym g.1 ∙ h in
    let z : ◌≡◌ {A = ℕ} 0 1 = cc in
    absurd (omega arith)

module _ (entry : Entry) (f : Frame) (mf : Bool) (m : Machine) (f4 : f.register ≢ 4) (l : length m.registers.gpr ≡ 16) where
  -- a push lies below all that is there
  fresh_push : (cs : List Act) (a : ℕ) → Good f.register mf cs → ActsFit entry f cs m → phase cs ≤ 1 → a < rsp_of (acts entry f cs m)
      → NotIn a (needs entry f cs m)
  fresh_push [] a g fit h low = ((λ e. omega arith), tt)
  fresh_push (push r ∷ cs) a g fit h low =
      let q = push_rsp (gpr (acts entry f cs m).registers r) (acts entry f cs m) (size_is entry f m cs ∙ l) in
      ((λ e. omega arith), fresh_push cs a g.3 fit.1 g.0 (omega arith))
  fresh_push (alloc n ∷ cs) a g fit h low = absurd (omega arith)
  fresh_push (frame ∷ cs) a g fit h low = absurd (omega arith)
  fresh_push (save r o ∷ cs) a g fit h low = absurd (omega arith)
  fresh_push (save_xmm x o ∷ cs) a g fit h low = absurd (omega arith)
  fresh_push (trap e ∷ cs) a g fit h low = ((λ z. omega arith), ((λ z. omega arith), tt))

  -- a save lies below the pushes or above the return address, and meets no save before it
  abbrev Clear : ℕ → List Act → Type 0
  Clear a cs = (a + 8 + pushed cs + dropped entry cs ≤ rsp_of m) ⊎ ((mf ≡ false) × (rsp_of m + 8 ≤ a))

  fresh_save : (cs : List Act) (a b o : ℕ) → a ≡ b + o → Good f.register mf cs → ActsFit entry f cs m
      → (phase cs ≡ 4 → b ≡ rsp_of (acts entry f cs m)) → NotIn o (places cs) → Clear a cs → NotIn a (needs entry f cs m)
  fresh_save [] a b o ea g fit hb n c = (⊎_elim (λ p e. omega arith) (λ p e. omega (arith, p.1)) c, tt)
  fresh_save (push r ∷ cs) a b o ea g fit hb n c =
      let t = untaken f.register mf cs g.3 g.0 in
      let q = rsp_is entry f m f4 l cs fit.1 in
      let low = fit.0 in (
        ⊎_elim (λ p e. omega arith) (λ p e. omega (arith, p.1)) c,
        fresh_save cs a b o ea g.3 fit.1 (λ z. absurd (omega (arith, g.0))) n (⊎_elim (λ p. inl (omega arith)) inr c),
      )
  fresh_save (alloc k ∷ cs) a b o ea g fit hb n c =
      fresh_save cs a b o ea g.1 fit.1 (λ z. absurd (omega (arith, g.0))) n c
  fresh_save (frame ∷ cs) a b o ea g fit hb n c =
      fresh_save cs a b o ea g.2 fit.1 (λ z. absurd (omega (arith, g.0))) n c
  fresh_save (save r i ∷ cs) a b o ea g fit hb n c =
      ((λ e. n.0 (omega (arith, hb refl))), fresh_save cs a b o ea g.4 fit.1 (λ z. hb refl) n.1 c)
  fresh_save (save_xmm x i ∷ cs) a b o ea g fit hb n c = (
    (λ e. n.0 (omega (arith, hb refl))),
    ((λ e. n.1.0 (omega (arith, hb refl))), fresh_save cs a b o ea g.3 fit.1 (λ z. hb refl) n.1.1 c),
  )
  fresh_save (trap e ∷ cs) a b o ea g fit hb n c =
      let q = rsp_is entry f m f4 l (trap e ∷ cs) fit in
      let t = ap taken g.0 in
      ⊎_elim (λ p. ((λ z. omega arith), ((λ z. omega arith), tt)))
      (λ p. let u : true ≡ false = sym g.1 ∙ p.0 in let z : ◌≡◌ {A = ℕ} 0 1 = cc in absurd (omega arith)) c

  clear_place : (cs : List Act) (o : ℕ) → Good f.register mf cs → ActsFit entry f cs m → Place mf (pushed cs) (taken cs) o
      → Clear (rsp_of (acts entry f cs m) + o) cs
  clear_place cs o g fit =
      let q = rsp_is entry f m f4 l cs fit in
      ⊎_elim (λ p. inl (omega arith)) (λ p. let d = undropped f.register mf entry cs g p.0 in inr (p.0, omega (arith, p.1)))

  pub distinct : (cs : List Act) → Good f.register mf cs → ActsFit entry f cs m → Distinct (needs entry f cs m)
  distinct [] g fit = (tt, tt)
  distinct (push r ∷ cs) g fit =
      let low = fit.0 in
      (fresh_push cs _ g.3 fit.1 g.0 (omega arith), distinct cs g.3 fit.1)
  distinct (alloc n ∷ cs) g fit = distinct cs g.1 fit.1
  distinct (frame ∷ cs) g fit = distinct cs g.2 fit.1
  distinct (save r o ∷ cs) g fit = (
    fresh_save cs _ (rsp_of (acts entry f cs m)) o refl g.4 fit.1 (λ _. refl) g.3 (clear_place cs o g.4 fit.1 g.2),
    distinct cs g.4 fit.1,
  )
  distinct (save_xmm x o ∷ cs) g fit =
      let b : ℕ = rsp_of (acts entry f cs m) in
      let e : b + o + 8 ≡ b + (o + 8) = omega arith in (
        (
          (λ z. omega arith),
          fresh_save cs (b + o) b o refl g.3 fit.1 (λ _. refl) g.2.0 (clear_place cs o g.3 fit.1 g.1.0),
        ),
        (
          rw e (fresh_save cs (b + (o + 8)) b (o + 8) refl g.3 fit.1 (λ _. refl) g.2.1 (clear_place cs (o + 8) g.3 fit.1 g.1.1)),
          distinct cs g.3 fit.1,
        ),
      )
  distinct (trap e ∷ cs) g fit = (((λ z. omega arith), tt), (tt, tt))

-- ---- what a window that holds those words holds of each act

module _ (w : Window) where
  -- each word as its act put it down
  abbrev pub HoldsActs : Entry → Frame → List Act → Machine → Type 0
  HoldsActs entry f [] m = word_at w (rsp_of m) ≡ Some (m.memory (rsp_of m))
  HoldsActs entry f (push r ∷ cs) m =
      (word_at w (rsp_of (acts entry f cs m) - 8) ≡ Some (gpr (acts entry f cs m).registers r)) × HoldsActs entry f cs m
  HoldsActs entry f (alloc n ∷ cs) m = HoldsActs entry f cs m
  HoldsActs entry f (frame ∷ cs) m = HoldsActs entry f cs m
  HoldsActs entry f (save r o ∷ cs) m =
      (word_at w (rsp_of (acts entry f cs m) + o) ≡ Some (gpr (acts entry f cs m).registers r)) × HoldsActs entry f cs m
  HoldsActs entry f (save_xmm x o ∷ cs) m =
      (word_at w (rsp_of (acts entry f cs m) + o) ≡ Some (xmm_low (acts entry f cs m) x))
      × (word_at w (rsp_of (acts entry f cs m) + o + 8) ≡ Some (xmm_high (acts entry f cs m) x))
      × HoldsActs entry f cs m
  HoldsActs entry f (trap e ∷ cs) m =
      Holds w (push_frame entry e (acts entry f cs m)).memory (needs entry f (trap e ∷ cs) m)

  holds_other : (mem : Memory) (a v : ℕ) (zs : List ℕ) → NotIn a zs → Holds w (write mem a v) zs → Holds w mem zs
  holds_other mem a v [] n h = tt
  holds_other mem a v (z ∷ zs) n h =
      (h.0 ∙ ap Some (write_other mem a v z (λ e. n.0 (sym e))), holds_other mem a v zs n.1 h.1)

  pub there : (entry : Entry) (f : Frame) (m : Machine) (cs : List Act) → Distinct (needs entry f cs m)
      → Holds w (acts entry f cs m).memory (needs entry f cs m) → HoldsActs entry f cs m
  there entry f m [] d h = h.0
  there entry f m (push r ∷ cs) d h =
      let p : Machine = acts entry f cs m in (
        h.0 ∙ ap Some (write_same p.memory (rsp_of p - 8) (gpr p.registers r)),
        there entry f m cs d.1 (holds_other p.memory (rsp_of p - 8) _ (needs entry f cs m) d.0 h.1),
      )
  there entry f m (alloc n ∷ cs) d h = there entry f m cs d h
  there entry f m (frame ∷ cs) d h = there entry f m cs d h
  there entry f m (save r o ∷ cs) d h =
      let p : Machine = acts entry f cs m in (
        h.0 ∙ ap Some (write_same p.memory (rsp_of p + o) (gpr p.registers r)),
        there entry f m cs d.1 (holds_other p.memory (rsp_of p + o) _ (needs entry f cs m) d.0 h.1),
      )
  there entry f m (save_xmm x o ∷ cs) d h =
      let p : Machine = acts entry f cs m in
      let mem : Memory = write p.memory (rsp_of p + o) (xmm_low p x) in (
        h.0
            ∙ ap Some
            (write_other mem (rsp_of p + o + 8) (xmm_high p x) (rsp_of p + o) (λ e. omega arith)
            ∙ write_same p.memory (rsp_of p + o) (xmm_low p x)),
        h.1.0 ∙ ap Some (write_same mem (rsp_of p + o + 8) (xmm_high p x)),
        there entry f m cs d.1.1
            (holds_other p.memory (rsp_of p + o) _ (needs entry f cs m) d.0.1
            (holds_other mem (rsp_of p + o + 8) _ (needs entry f cs m) d.1.0 h.1.1)),
      )
  there entry f m (trap e ∷ cs) d h = h
