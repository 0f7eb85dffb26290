-- Which rules for the base of a save serve: that of the frame register, or RSP, as it is when the save is undone, and that of the frame
-- register, or RSP, as it is at the stop.
-- Assumes nothing.
use mathlib.Core.Path.{◌≡◌, refl, sym, ap, ◌∙◌}
use mathlib.Core.Logic.{◌≢◌}
use mathlib.Core.Bool.{Bool, true, false, not}
use mathlib.Core.List.{List, [], ◌∷◌}
use Prim.Native.Nat.{ℕ, ◌+◌, ◌-◌, ◌≤◌, ◌<◌}
use native.Mathlib.Omega.{arith}
use lib.ListN.{length}
use lib.Seq.{get_or-set_same, get_or-set_other}
use lib.Dec.{eqb}
use borrow.Author.Tests.{le-leb}
use Rattle.answer.specs.Test.{pick}
use Rattle.unwind_array.specs.Arrays.{Frame}
use Rattle.unwind_state.specs.State.{gpr, rsp}
use Rattle.unwind_state.specs.declared.State.{State}
use Rattle.unwind_undo.specs.Undo.{Undone, less, Base, BaseRule, base_when_undone}
use Rattle.prolog_machine.specs.Machine.{Machine, rsp_of, Entry}
use Rattle.prolog_theorem.proofs.Acts.{Act, push, alloc, frame, save, save_xmm, trap, acts, framed, phase, Good}
use Rattle.prolog_theorem.proofs.Runs.{size_is, unframed}
use Rattle.prolog_theorem.proofs.Back.{Ready, RightBase, owed_small}

-- the frame register less the frame offset where a set frame is among the undone codes, else RSP, each as it is at the stop
abbrev pub base_at_stop : BaseRule
base_at_stop stop framed s f k = pick framed (less (gpr stop f.register) f.offset k) (k (rsp stop))

-- a save comes after set frame, where the info names a frame register
abbrev pub After : ℕ → List Act → Type 0
After fr [] = Unit {0}
After fr (push r ∷ cs) = After fr cs
After fr (alloc n ∷ cs) = After fr cs
After fr (frame ∷ cs) = After fr cs
After fr (save r o ∷ cs) = (framed cs ≡ not (eqb fr 0)) × After fr cs
After fr (save_xmm x o ∷ cs) = (framed cs ≡ not (eqb fr 0)) × After fr cs
After fr (trap e ∷ cs) = Unit {0}

module _ (entry : Entry) (f : Frame) (mf : Bool) (m : Machine) (f4 : f.register ≢ 4) (l : length m.registers.gpr ≡ 16) where
  -- the frame register is RSP and the offset, once it is set
  abbrev IsSet : Bool → State → Type 0
  IsSet false p = Unit {0}
  IsSet true p = gpr p f.register ≡ rsp p + f.offset

  pub sets : (cs : List Act) → Good f.register mf cs → IsSet (framed cs) (acts entry f cs m).registers
  sets [] g = tt
  sets (push r ∷ cs) g = rw (unframed f.register mf cs g.3 (omega (arith, g.0))) tt
  sets (alloc n ∷ cs) g = rw (unframed f.register mf cs g.1 g.0) tt
  sets (frame ∷ cs) g =
      let p : Machine = acts entry f cs m in
      let f16 : f.register < 16 = owed_small f.register mf cs f.register g.2 g.1 in
      let lp = size_is entry f m cs in
      get_or-set_same p.registers.gpr f.register (rsp_of p + f.offset) 0 (omega arith)
      ∙ ap (λ a. a + f.offset) (sym (get_or-set_other p.registers.gpr f.register 4 (rsp_of p + f.offset) 0 (λ e. f4 (sym e))))
  sets (save r o ∷ cs) g = sets cs g.4
  sets (save_xmm x o ∷ cs) g = sets cs g.3
  sets (trap e ∷ cs) g = rw g.0 tt

  right_at : (b named : Bool) (p s : State) (k : ℕ → Undone) → b ≡ not named → IsSet b p → Ready f b p s
      → pick named (k (rsp s)) (less (gpr s f.register) f.offset k) ≡ k (rsp p)
  right_at false true p s k e i q = ap k q
  right_at true false p s k e i q =
      let a : gpr s f.register ≡ rsp p + f.offset = q ∙ i in
      let h : f.offset ≤ rsp p + f.offset = omega arith in
      let d : rsp p + f.offset - f.offset ≡ rsp p = omega arith in
      rw (a, le-leb f.offset (rsp p + f.offset) h, d)
  right_at false false p s k e i q = let z : ◌≡◌ {A = ℕ} 0 1 = cc in absurd (omega arith)
  right_at true true p s k e i q = let z : ◌≡◌ {A = ℕ} 0 1 = cc in absurd (omega arith)

  pub when_undone : (stop : State) (fr : Bool) (cs : List Act) → Good f.register mf cs → After f.register cs
      → RightBase (base_when_undone stop fr) entry f m cs
  when_undone stop fr [] g h = tt
  when_undone stop fr (push r ∷ cs) g h = when_undone stop fr cs g.3 h
  when_undone stop fr (alloc n ∷ cs) g h = when_undone stop fr cs g.1 h
  when_undone stop fr (frame ∷ cs) g h = when_undone stop fr cs g.2 h
  when_undone stop fr (save r o ∷ cs) g h = (
    (λ s k q. right_at (framed cs) (eqb f.register 0) (acts entry f cs m).registers s k h.0 (sets cs g.4) q),
    when_undone stop fr cs g.4 h.1,
  )
  when_undone stop fr (save_xmm x o ∷ cs) g h = (
    (λ s k q. right_at (framed cs) (eqb f.register 0) (acts entry f cs m).registers s k h.0 (sets cs g.3) q),
    when_undone stop fr cs g.3 h.1,
  )
  when_undone stop fr (trap e ∷ cs) g h = tt

  -- a base that is the same for all saves
  fixed : (base : Base) (b : ℕ) → ((s : State) (k : ℕ → Undone) → base s f k ≡ k b) → (cs : List Act) → Good f.register mf cs
      → (phase cs ≡ 4 → b ≡ rsp_of (acts entry f cs m)) → RightBase base entry f m cs
  fixed base b h [] g e = tt
  fixed base b h (push r ∷ cs) g e = fixed base b h cs g.3 (λ z. absurd (omega (arith, g.0)))
  fixed base b h (alloc n ∷ cs) g e = fixed base b h cs g.1 (λ z. absurd (omega (arith, g.0)))
  fixed base b h (frame ∷ cs) g e = fixed base b h cs g.2 (λ z. absurd (omega (arith, g.0)))
  fixed base b h (save r o ∷ cs) g e = ((λ s k _. h s k ∙ ap k (e refl)), fixed base b h cs g.4 (λ _. e refl))
  fixed base b h (save_xmm x o ∷ cs) g e = ((λ s k _. h s k ∙ ap k (e refl)), fixed base b h cs g.3 (λ _. e refl))
  fixed base b h (trap x ∷ cs) g e = tt

  stop_at_lem : (b : Bool) (p stop : State) (k : ℕ → Undone) → IsSet b p → Ready f b p stop
      → pick b (less (gpr stop f.register) f.offset k) (k (rsp stop)) ≡ k (rsp p)
  stop_at_lem false p stop k i q = right_at false true p stop k refl i q
  stop_at_lem true p stop k i q = right_at true false p stop k refl i q

  pub at_stop : (stop : State) (cs : List Act) → Good f.register mf cs → Ready f (framed cs) (acts entry f cs m).registers stop
      → RightBase (base_at_stop stop (framed cs)) entry f m cs
  at_stop stop cs g q =
      fixed (base_at_stop stop (framed cs)) (rsp_of (acts entry f cs m))
      (λ s k. stop_at_lem (framed cs) (acts entry f cs m).registers stop k (sets cs g) q) cs g (λ _. refl)
