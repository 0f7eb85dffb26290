-- The registers after acts have run: RSP by what they took, the frame register where it was set, and all others as at entry.
-- Assumes nothing.
use mathlib.Core.Path.{◌≡◌, refl, sym, ap, ◌∙◌}
use mathlib.Core.Logic.{◌≢◌}
use mathlib.Core.Bool.{Bool, true, false}
use mathlib.Core.List.{List, [], ◌∷◌}
use Prim.Native.Nat.{ℕ, ◌+◌, ◌-◌, ◌≤◌, ◌<◌}
use native.Mathlib.Omega.{arith}
use native.Mathlib.Bridge.{le_by_compare, IsLe}
use lib.ListN.{length, length-set}
use lib.Seq.{get_or-set_other}
use Rattle.unwind_array.specs.Arrays.{Frame}
use Rattle.unwind_state.specs.State.{gpr}
use Rattle.prolog_machine.specs.Machine.{Machine, rsp_of, move_rsp, push_word, Entry, called, interrupted, error_bytes, push_frame}
use Rattle.prolog_machine.specs.Stop.{NotIn, frame_words}
use Rattle.prolog_theorem.proofs.Acts.{Act, push, alloc, frame, save, save_xmm, trap, acts, framed, owed, pushed, taken}
use Rattle.prolog_theorem.proofs.Acts.{frame_drop, dropped, phase, Good, ActFits, ActsFit, push_size, push_rsp, move_rsp_lem, push_there, push_elsewhere}

-- ---- a machine frame

-- after the five words: where RSP is, where RIP lies, and where RSP as it was
record Pushed (m p : Machine) : Type 0 where
  size : length p.registers.gpr ≡ 16
  stack : rsp_of p ≡ rsp_of m - 32
  rip : p.memory (rsp_of m - 32) ≡ m.memory (rsp_of m)
  old : p.memory (rsp_of m - 8) ≡ rsp_of m + 8
  elsewhere :
      (x : ℕ) → x ≢ rsp_of m → x ≢ rsp_of m - 8 → x ≢ rsp_of m - 16 → x ≢ rsp_of m - 24 → x ≢ rsp_of m - 32 → p.memory x ≡ m.memory x

lower : (a b k : ℕ) → a ≡ b - k → a - 8 ≡ b - (k + 8)
lower a b k e = omega arith

far : (b k : ℕ) → 32 ≤ b → k ≤ 32 → 8 < k → b - 8 ≢ b - k
far b k low h g e = omega arith

five : (m : Machine) (a b c d : ℕ) → length m.registers.gpr ≡ 16 → 32 ≤ rsp_of m → d ≡ m.memory (rsp_of m)
    → Pushed m (push_word d (push_word c (push_word b (push_word (rsp_of m + 8) (push_word a (move_rsp (rsp_of m + 8) m))))))
unfolding IsLe
five m a b c d l low ret =
    let m0 : Machine = move_rsp (rsp_of m + 8) m in
    let m1 : Machine = push_word a m0 in
    let m2 : Machine = push_word (rsp_of m + 8) m1 in
    let m3 : Machine = push_word b m2 in
    let m4 : Machine = push_word c m3 in
    let l0 : length m0.registers.gpr ≡ 16 = length-set m.registers.gpr 4 _ ∙ l in
    let l1 : length m1.registers.gpr ≡ 16 = push_size a m0 ∙ l0 in
    let l2 : length m2.registers.gpr ≡ 16 = push_size (rsp_of m + 8) m1 ∙ l1 in
    let l3 : length m3.registers.gpr ≡ 16 = push_size b m2 ∙ l2 in
    let l4 : length m4.registers.gpr ≡ 16 = push_size c m3 ∙ l3 in
    let r0 : rsp_of m0 ≡ rsp_of m + 8 = move_rsp_lem (rsp_of m + 8) m l in
    let r1 : rsp_of m1 ≡ rsp_of m = push_rsp a m0 l0 ∙ omega arith in
    let r2 : rsp_of m2 ≡ rsp_of m - 8 = push_rsp (rsp_of m + 8) m1 l1 ∙ omega arith in
    let r3 : rsp_of m3 ≡ rsp_of m - 16 = push_rsp b m2 l2 ∙ omega arith in
    let r4 : rsp_of m4 ≡ rsp_of m - 24 = push_rsp c m3 l3 ∙ omega arith in
    let e0 : rsp_of m0 - 8 ≡ rsp_of m = omega arith in
    let e1 : rsp_of m1 - 8 ≡ rsp_of m - 8 = ap (λ a. a - 8) r1 in
    let e2 : rsp_of m2 - 8 ≡ rsp_of m - 16 = lower (rsp_of m2) (rsp_of m) 8 r2 in
    let e3 : rsp_of m3 - 8 ≡ rsp_of m - 24 = lower (rsp_of m3) (rsp_of m) 16 r3 in
    let e4 : rsp_of m4 - 8 ≡ rsp_of m - 32 = lower (rsp_of m4) (rsp_of m) 24 r4 in
    record {
      size = push_size d m4 ∙ l4;
      stack = push_rsp d m4 l4 ∙ e4;
      rip = push_there d (rsp_of m - 32) m4 (sym e4) ∙ ret;
      old =
          push_elsewhere d (rsp_of m - 8) m4 (λ z. far (rsp_of m) 32 low (le_by_compare 32 32 tt) (le_by_compare 9 32 tt) (z ∙ e4))
          ∙ push_elsewhere c (rsp_of m - 8) m3 (λ z. far (rsp_of m) 24 low (le_by_compare 24 32 tt) (le_by_compare 9 24 tt) (z ∙ e3))
          ∙ push_elsewhere b (rsp_of m - 8) m2 (λ z. far (rsp_of m) 16 low (le_by_compare 16 32 tt) (le_by_compare 9 16 tt) (z ∙ e2))
          ∙ push_there (rsp_of m + 8) (rsp_of m - 8) m1 (sym e1);
      elsewhere =
          λ x h0 h1 h2 h3 h4.
          push_elsewhere d x m4 (λ z. h4 (z ∙ e4))
          ∙ push_elsewhere c x m3 (λ z. h3 (z ∙ e3))
          ∙ push_elsewhere b x m2 (λ z. h2 (z ∙ e2))
          ∙ push_elsewhere (rsp_of m + 8) x m1 (λ z. h1 (z ∙ e1))
          ∙ push_elsewhere a x m0 (λ z. h0 (z ∙ e0));
    }

-- a machine frame that the prolog makes: RIP in it is the return address, and RSP lies above that
pub record Framed (e : Bool) (m p : Machine) : Type 0 where
  pub size : length p.registers.gpr ≡ 16
  pub stack : rsp_of p + (32 + error_bytes e) ≡ rsp_of m
  pub rip : p.memory (rsp_of p + error_bytes e) ≡ m.memory (rsp_of m)
  pub old : p.memory (rsp_of p + error_bytes e + 24) ≡ rsp_of m + 8
  pub elsewhere : (x : ℕ) → NotIn x (frame_words e (rsp_of p)) → p.memory x ≡ m.memory x

pub frame_made : (e : Bool) (m : Machine) → length m.registers.gpr ≡ 16 → 32 + error_bytes e ≤ rsp_of m
    → Framed e m (push_frame called e m)
frame_made false m l low =
    let h = five m m.ss m.rflags m.cs (m.memory (rsp_of m)) l low refl in
    let p : Machine = push_frame called false m in
    let r : rsp_of p ≡ rsp_of m - 32 = h.stack in
    let a1 : rsp_of p + 0 ≡ rsp_of m - 32 = omega arith in
    let a2 : rsp_of p + 0 + 24 ≡ rsp_of m - 8 = omega arith in
    let b0 : rsp_of m ≡ rsp_of p + 32 = omega arith in
    let b1 : rsp_of m - 8 ≡ rsp_of p + 24 = omega arith in
    let b2 : rsp_of m - 16 ≡ rsp_of p + 16 = omega arith in
    let b3 : rsp_of m - 24 ≡ rsp_of p + 8 = omega arith in
    let b4 : rsp_of m - 32 ≡ rsp_of p = omega arith in
    record {
      size = h.size;
      stack = omega arith;
      rip = ap p.memory a1 ∙ h.rip;
      old = ap p.memory a2 ∙ h.old;
      elsewhere =
          λ x n.
          h.elsewhere x (λ z. n.1.1.1.1.0 (z ∙ b0)) (λ z. n.1.1.1.0 (z ∙ b1)) (λ z. n.1.1.0 (z ∙ b2)) (λ z. n.1.0 (z ∙ b3))
          (λ z. n.0 (z ∙ b4));
    }
frame_made true m l low =
    let q : Machine =
    push_word (m.memory (rsp_of m))
    (push_word m.cs (push_word m.rflags (push_word (rsp_of m + 8) (push_word m.ss (move_rsp (rsp_of m + 8) m))))) in
    let h : Pushed m q = five m m.ss m.rflags m.cs (m.memory (rsp_of m)) l (omega arith) refl in
    let p : Machine = push_word m.error q in
    let s : rsp_of q ≡ rsp_of m - 32 = h.stack in
    let r : rsp_of p ≡ rsp_of m - 40 = push_rsp m.error q h.size ∙ omega arith in
    let a1 : rsp_of p + 8 ≡ rsp_of m - 32 = omega arith in
    let a2 : rsp_of p + 8 + 24 ≡ rsp_of m - 8 = omega arith in
    let b0 : rsp_of m ≡ rsp_of p + 40 = omega arith in
    let b1 : rsp_of m - 8 ≡ rsp_of p + 32 = omega arith in
    let b2 : rsp_of m - 16 ≡ rsp_of p + 24 = omega arith in
    let b3 : rsp_of m - 24 ≡ rsp_of p + 16 = omega arith in
    let b4 : rsp_of m - 32 ≡ rsp_of p + 8 = omega arith in
    let b5 : rsp_of q - 8 ≡ rsp_of p = omega arith in
    record {
      size = push_size m.error q ∙ h.size;
      stack = omega arith;
      rip = ap p.memory a1 ∙ push_elsewhere m.error (rsp_of m - 32) q (λ z. omega arith) ∙ h.rip;
      old = ap p.memory a2 ∙ push_elsewhere m.error (rsp_of m - 8) q (λ z. omega arith) ∙ h.old;
      elsewhere =
          λ x n.
          push_elsewhere m.error x q (λ z. n.0 (z ∙ b5))
          ∙ h.elsewhere x (λ z. n.1.1.1.1.1.0 (z ∙ b0)) (λ z. n.1.1.1.1.0 (z ∙ b1)) (λ z. n.1.1.1.0 (z ∙ b2))
          (λ z. n.1.1.0 (z ∙ b3)) (λ z. n.1.0 (z ∙ b4));
    }

pub frame_reg : (entry : Entry) (e : Bool) (x : ℕ) (m : Machine) → x ≢ 4
    → gpr (push_frame entry e m).registers x ≡ gpr m.registers x
frame_reg (interrupted y) e x m h = refl
frame_reg called false x m h = simp get_or-set_other
frame_reg called true x m h = simp get_or-set_other

pub frame_size : (entry : Entry) (e : Bool) (m : Machine) → length (push_frame entry e m).registers.gpr ≡ length m.registers.gpr
frame_size (interrupted y) e m = refl
frame_size called false m = simp length-set
frame_size called true m = simp length-set

frame_xmm : (entry : Entry) (e : Bool) (m : Machine) → (push_frame entry e m).registers.xmm ≡ m.registers.xmm
frame_xmm (interrupted y) e m = refl
frame_xmm called false m = refl
frame_xmm called true m = refl

-- ---- acts

module _ (entry : Entry) (f : Frame) (m : Machine) where
  pub size_is : (cs : List Act) → length (acts entry f cs m).registers.gpr ≡ length m.registers.gpr
  size_is [] = refl
  size_is (push r ∷ cs) = length-set (acts entry f cs m).registers.gpr 4 _ ∙ size_is cs
  size_is (alloc n ∷ cs) = length-set (acts entry f cs m).registers.gpr 4 _ ∙ size_is cs
  size_is (frame ∷ cs) = length-set (acts entry f cs m).registers.gpr f.register _ ∙ size_is cs
  size_is (save r o ∷ cs) = size_is cs
  size_is (save_xmm x o ∷ cs) = size_is cs
  size_is (trap e ∷ cs) = frame_size entry e (acts entry f cs m) ∙ size_is cs

  pub xmm_is : (cs : List Act) → (acts entry f cs m).registers.xmm ≡ m.registers.xmm
  xmm_is [] = refl
  xmm_is (push r ∷ cs) = xmm_is cs
  xmm_is (alloc n ∷ cs) = xmm_is cs
  xmm_is (frame ∷ cs) = xmm_is cs
  xmm_is (save r o ∷ cs) = xmm_is cs
  xmm_is (save_xmm x o ∷ cs) = xmm_is cs
  xmm_is (trap e ∷ cs) = frame_xmm entry e (acts entry f cs m) ∙ xmm_is cs

  -- a register that is not RSP, nor the frame register where that was set
  pub register_is : (cs : List Act) (x : ℕ) → x ≢ 4 → (framed cs ≡ true → x ≢ f.register)
      → gpr (acts entry f cs m).registers x ≡ gpr m.registers x
  register_is [] x h g = refl
  register_is (push r ∷ cs) x h g = get_or-set_other (acts entry f cs m).registers.gpr 4 x _ 0 h ∙ register_is cs x h g
  register_is (alloc n ∷ cs) x h g = get_or-set_other (acts entry f cs m).registers.gpr 4 x _ 0 h ∙ register_is cs x h g
  register_is (frame ∷ cs) x h g =
      get_or-set_other (acts entry f cs m).registers.gpr f.register x _ 0 (g refl) ∙ register_is cs x h (λ _. g refl)
  register_is (save r o ∷ cs) x h g = register_is cs x h g
  register_is (save_xmm y o ∷ cs) x h g = register_is cs x h g
  register_is (trap e ∷ cs) x h g = frame_reg entry e x (acts entry f cs m) h ∙ register_is cs x h g

trap_rsp : (entry : Entry) (f : Frame) (e : Bool) (m : Machine) → length m.registers.gpr ≡ 16 → ActFits entry f (trap e) m
    → rsp_of (push_frame entry e m) + frame_drop entry e ≡ rsp_of m
trap_rsp called f e m l fit = (frame_made e m l fit).stack
trap_rsp (interrupted x) f e m l fit = omega arith

module _ (entry : Entry) (f : Frame) (m : Machine) (f4 : f.register ≢ 4) (l : length m.registers.gpr ≡ 16) where
  -- RSP
  pub rsp_is : (cs : List Act) → ActsFit entry f cs m
      → rsp_of (acts entry f cs m) + (pushed cs + taken cs + dropped entry cs) ≡ rsp_of m
  rsp_is [] fit = omega arith
  rsp_is (push r ∷ cs) fit =
      omega (arith, rsp_is cs fit.1, fit.0, push_rsp (gpr (acts entry f cs m).registers r) (acts entry f cs m) (size_is entry f m cs ∙ l))
  rsp_is (alloc n ∷ cs) fit =
      omega (arith, rsp_is cs fit.1, fit.0, move_rsp_lem (rsp_of (acts entry f cs m) - n) (acts entry f cs m) (size_is entry f m cs ∙ l))
  rsp_is (frame ∷ cs) fit =
      omega (
        arith,
        rsp_is cs fit.1,
        get_or-set_other (acts entry f cs m).registers.gpr f.register 4 (rsp_of (acts entry f cs m) + f.offset) 0 (λ e. f4 (sym e)),
      )
  rsp_is (save r o ∷ cs) fit = rsp_is cs fit.1
  rsp_is (save_xmm x o ∷ cs) fit = rsp_is cs fit.1
  rsp_is (trap e ∷ cs) fit =
      omega (arith, rsp_is cs fit.1, trap_rsp entry f e (acts entry f cs m) (size_is entry f m cs ∙ l) fit.0)

-- a set frame comes after pushes and allocations
pub unframed : (fr : ℕ) (mf : Bool) (cs : List Act) → Good fr mf cs → phase cs ≤ 2 → framed cs ≡ false
unframed fr mf [] g h = refl
unframed fr mf (push r ∷ cs) g h = unframed fr mf cs g.3 (omega (arith, g.0))
unframed fr mf (alloc n ∷ cs) g h = unframed fr mf cs g.1 g.0
unframed fr mf (frame ∷ cs) g h = absurd (omega arith)
unframed fr mf (save r o ∷ cs) g h = absurd (omega arith)
unframed fr mf (save_xmm x o ∷ cs) g h = absurd (omega arith)
unframed fr mf (trap e ∷ cs) g h = rw g.0

-- the frame register was pushed where it was set
pub framed_owed : (fr : ℕ) (mf : Bool) (cs : List Act) → Good fr mf cs → framed cs ≡ true → ¬ NotIn fr (owed cs)
framed_owed fr mf [] g h n = let z : ◌≡◌ {A = ℕ} 0 1 = cc in omega arith
framed_owed fr mf (push r ∷ cs) g h n = framed_owed fr mf cs g.3 h n.1
framed_owed fr mf (alloc k ∷ cs) g h n = framed_owed fr mf cs g.1 h n
framed_owed fr mf (frame ∷ cs) g h n = g.1 n
framed_owed fr mf (save r o ∷ cs) g h n = framed_owed fr mf cs g.4 h n.1
framed_owed fr mf (save_xmm x o ∷ cs) g h n = framed_owed fr mf cs g.3 h n
framed_owed fr mf (trap e ∷ cs) g h n = let q : false ≡ true = rw g.0 at h in
    let z : ◌≡◌ {A = ℕ} 0 1 = cc in
    omega arith

pub no_four : (fr : ℕ) (mf : Bool) (cs : List Act) → Good fr mf cs → NotIn 4 (owed cs)
no_four fr mf [] g = tt
no_four fr mf (push r ∷ cs) g = ((λ e. g.1 (sym e)), no_four fr mf cs g.3)
no_four fr mf (alloc n ∷ cs) g = no_four fr mf cs g.1
no_four fr mf (frame ∷ cs) g = no_four fr mf cs g.2
no_four fr mf (save r o ∷ cs) g = ((λ e. g.0 (sym e)), no_four fr mf cs g.4)
no_four fr mf (save_xmm x o ∷ cs) g = no_four fr mf cs g.3
no_four fr mf (trap e ∷ cs) g = rw g.0 tt
