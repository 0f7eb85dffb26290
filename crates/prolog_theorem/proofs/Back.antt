-- Undoing acts in array order gives back what they owe: by induction on the array, from a state in which RSP, or the frame register where
-- it was set, is right. All other registers may be wrong: what is owed comes from the stack, and what is not owed stays.
-- Assumes nothing.
use Rattle.std.specs.Prelude.{Some}
use mathlib.Core.Path.{◌≡◌, refl, sym, ap, ◌∙◌, subst}
use mathlib.Core.Logic.{◌≢◌, ◌⊎◌, inl, inr}
use mathlib.Core.Bool.{Bool, true, false}
use mathlib.Core.List.{List, [], ◌∷◌}
use Prim.Native.Nat.{ℕ, ◌+◌, ◌-◌, ◌*◌, ◌^◌, ◌≤◌, ◌<◌}
use native.Mathlib.Decide.{ℕ_discrete, dec_lt}
use native.Mathlib.Omega.{arith}
use lib.ListN.{length, get_or, set, length-set}
use lib.Seq.{get_or-set_same, get_or-set_other}
use borrow.Author.Tests.{lt-ltb, le-leb}
use Rattle.unwind_array.specs.Arrays.{Frame}
use Rattle.unwind_state.specs.State.{gpr, rsp, with_gpr, with_rsp, with_rip, with_xmm, Window, word_at}
use Rattle.unwind_state.specs.declared.State.{State}
use Rattle.unwind_undo.specs.Undo.{Undone, on, caller, within, less, word, Base, undo_push}
use Rattle.unwind_undo.specs.Undo.{undo_alloc, undo_set_frame, undo_save, undo_save_xmm, undo_machine_frame, last_step, and_then}
use Rattle.prolog_machine.specs.Machine.{Machine, rsp_of, xmm_low, xmm_high, Entry, called, interrupted, error_bytes, push_frame, caller_of}
use Rattle.prolog_machine.specs.Stop.{NotIn, FitsEntry, Sized}
use Rattle.prolog_theorem.proofs.Acts.{Act, push, alloc, frame, save, save_xmm, trap, acts}
use Rattle.prolog_theorem.proofs.Acts.{framed, owed, owed_xmm, Good, ActFits, ActsFit, push_rsp, move_rsp_lem}
use Rattle.prolog_theorem.proofs.Runs.{frame_made, size_is, xmm_is, register_is, rsp_is, unframed, framed_owed}
use Rattle.prolog_theorem.proofs.Words.{HoldsActs}

-- ---- undoing acts

abbrev pub undo_act : Base → Window → Frame → Act → State → Undone
undo_act base w f (push r) s = undo_push w r s
undo_act base w f (alloc n) s = undo_alloc n s
undo_act base w f frame s = undo_set_frame f s
undo_act base w f (save r o) s = undo_save base w f r o s
undo_act base w f (save_xmm x o) s = undo_save_xmm base w f x o s
undo_act base w f (trap e) s = undo_machine_frame w e s

abbrev pub undo_acts : Base → Window → Frame → List Act → State → Undone
undo_acts base w f [] s = last_step w s
undo_acts base w f (c ∷ cs) s = and_then (undo_act base w f c s) (undo_acts base w f cs)

-- what must be right of the registers `s` at a stop, against those that the acts came to: RSP or, where it was set, the frame register
abbrev pub Ready : Frame → Bool → State → State → Type 0
Ready f false p s = rsp s ≡ rsp p
Ready f true p s = gpr s f.register ≡ gpr p f.register

-- What is asked of a base: where a save is undone, it is RSP as it was when the save ran.
abbrev pub RightBase : Base → Entry → Frame → Machine → List Act → Type 0
RightBase base entry f m [] = Unit {0}
RightBase base entry f m (push r ∷ cs) = RightBase base entry f m cs
RightBase base entry f m (alloc n ∷ cs) = RightBase base entry f m cs
RightBase base entry f m (frame ∷ cs) = RightBase base entry f m cs
RightBase base entry f m (save r o ∷ cs) =
    ((s : State) (k : ℕ → Undone) → Ready f (framed cs) (acts entry f cs m).registers s → base s f k ≡ k (rsp_of (acts entry f cs m)))
    × RightBase base entry f m cs
RightBase base entry f m (save_xmm x o ∷ cs) =
    ((s : State) (k : ℕ → Undone) → Ready f (framed cs) (acts entry f cs m).registers s → base s f k ≡ k (rsp_of (acts entry f cs m)))
    × RightBase base entry f m cs
RightBase base entry f m (trap e ∷ cs) = Unit {0}

-- acts that end in what the prolog was entered by
abbrev pub Ends : Entry → List Act → Type 0
Ends called [] = Unit {0}
Ends (interrupted x) [] = ⊥
Ends entry (push r ∷ cs) = Ends entry cs
Ends entry (alloc n ∷ cs) = Ends entry cs
Ends entry (frame ∷ cs) = Ends entry cs
Ends entry (save r o ∷ cs) = Ends entry cs
Ends entry (save_xmm x o ∷ cs) = Ends entry cs
Ends called (trap e ∷ cs) = Unit {0}
Ends (interrupted x) (trap e ∷ cs) = x ≡ e

-- ---- registers that come back

-- the registers `xs` are as in `M`, all others as in `S`; only of registers that `P` holds of
pub record Mends (P : ℕ → Type 0) (xs M S T : List ℕ) : Type 0 where
  pub known : (x : ℕ) → P x → ¬ NotIn x xs → get_or T x 0 ≡ get_or M x 0
  pub stays : (x : ℕ) → P x → NotIn x xs → get_or T x 0 ≡ get_or S x 0

pub not_in : (x : ℕ) (xs : List ℕ) → NotIn x xs ⊎ (¬ NotIn x xs)
not_in x [] = inl tt
not_in x (y ∷ ys) = go (ℕ_discrete x y) (not_in x ys)
  where
    go : Dec (x ≡ y) → NotIn x ys ⊎ (¬ NotIn x ys) → NotIn x (y ∷ ys) ⊎ (¬ NotIn x (y ∷ ys))
    go (yes e) r = inr (λ n. n.0 e)
    go (no h) (inl n) = inl (h, n)
    go (no h) (inr n) = inr (λ k. n k.1)

-- one register more
mend : (P : ℕ → Type 0) (r : ℕ) (xs M S S' T : List ℕ) → Mends P xs M S' T → (NotIn r xs → get_or S' r 0 ≡ get_or M r 0)
    → ((x : ℕ) → P x → x ≢ r → get_or S' x 0 ≡ get_or S x 0) → Mends P (r ∷ xs) M S T
mend P r xs M S S' T h there others =
    record { known = known; stays = λ x p n. h.stays x p n.1 ∙ others x p n.0 }
  where
    at : (x : ℕ) → P x → ¬ NotIn x (r ∷ xs) → Dec (x ≡ r) → NotIn x xs ⊎ (¬ NotIn x xs) → get_or T x 0 ≡ get_or M x 0
    at x p n d (inr i) = h.known x p i
    at x p n (no k) (inl i) = absurd (n (k, i))
    at x p n (yes e) (inl i) = h.stays x p i ∙ ap (λ y. get_or S' y 0) e ∙ there (rw e at i) ∙ ap (λ y. get_or M y 0) (sym e)

    known : (x : ℕ) → P x → ¬ NotIn x (r ∷ xs) → get_or T x 0 ≡ get_or M x 0
    known x p n = at x p n (ℕ_discrete x r) (not_in x xs)

-- none more
same : (P : ℕ → Type 0) (xs M S S' T : List ℕ) → Mends P xs M S' T → ((x : ℕ) → P x → NotIn x xs → get_or S' x 0 ≡ get_or S x 0)
    → Mends P xs M S T
same P xs M S S' T h others = record { known = h.known; stays = λ x p n. h.stays x p n ∙ others x p n }

-- ---- what undoing comes to

abbrev pub caller_rsp : Entry → Machine → ℕ
caller_rsp called m = rsp_of m + 8
caller_rsp (interrupted e) m = m.memory (rsp_of m + error_bytes e + 24)

-- the caller's RIP and RSP, what is owed as at entry, and what is not as at the stop
pub record Result (entry : Entry) (m : Machine) (xs ys : List ℕ) (s : State) (out : Undone) : Type 0 where
  pub state : State
  pub answer : out ≡ caller state
  pub sized : Sized state
  pub rip : state.rip ≡ (caller_of entry m).rip
  pub stack : rsp state ≡ caller_rsp entry m
  pub general : Mends (λ x. x ≢ 4) xs m.registers.gpr s.gpr state.gpr
  pub xmm : Mends (λ x. Unit {0}) ys m.registers.xmm s.xmm state.xmm

word_is : (w : Window) (a v : ℕ) (k : ℕ → Undone) → a < 2 ^ 64 → word_at w a ≡ Some v → word w a k ≡ k v
word_is w a v k h e = rw (lt-ltb a (2 ^ 64) h, e)

within_is : (a : ℕ) (k : ℕ → Undone) → a < 2 ^ 64 → within a k ≡ k a
within_is a k h = rw (lt-ltb a (2 ^ 64) h)

less_is : (a n : ℕ) (k : ℕ → Undone) → n ≤ a → less a n k ≡ k (a - n)
less_is a n k h = rw (le-leb n a h)

pub high : (entry : Entry) (m : Machine) → FitsEntry entry m → rsp_of m + 8 < 2 ^ 64
high called m h = h
high (interrupted e) m h = omega arith

pub entry_fits : (entry : Entry) (f : Frame) (m : Machine) (cs : List Act) → ActsFit entry f cs m → FitsEntry entry m
entry_fits entry f m [] h = h
entry_fits entry f m (c ∷ cs) h = entry_fits entry f m cs h.1

-- a register above 15 is not owed
large : (fr : ℕ) (mf : Bool) (cs : List Act) (x : ℕ) → Good fr mf cs → 16 ≤ x → NotIn x (owed cs)
large fr mf [] x g h = tt
large fr mf (push r ∷ cs) x g h = ((λ e. omega (arith, g.2)), large fr mf cs x g.3 h)
large fr mf (alloc n ∷ cs) x g h = large fr mf cs x g.1 h
large fr mf (frame ∷ cs) x g h = large fr mf cs x g.2 h
large fr mf (save r o ∷ cs) x g h = ((λ e. omega (arith, g.1)), large fr mf cs x g.4 h)
large fr mf (save_xmm y o ∷ cs) x g h = large fr mf cs x g.3 h
large fr mf (trap e ∷ cs) x g h = rw g.0 tt

pub owed_small : (fr : ℕ) (mf : Bool) (cs : List Act) (x : ℕ) → Good fr mf cs → ¬ NotIn x (owed cs) → x < 16
owed_small fr mf cs x g n = go (dec_lt x 16)
  where
    go : Dec (x < 16) → x < 16
    go (yes h) = h
    go (no h) = absurd (n (large fr mf cs x g (omega arith)))

-- ---- the two ends

back_end : (w : Window) (entry : Entry) (f : Frame) (m : Machine) (s : State) → Ends entry [] → FitsEntry entry m
    → HoldsActs w entry f [] m → Sized s → rsp s ≡ rsp_of m → Result entry m [] [] s (last_step w s)
unfolding last_step
back_end w (interrupted e) f m s en fit hold z q = absurd en
back_end w called f m s en fit hold z q =
    let l = z.general in
    record {
      state = with_rip (with_rsp s (rsp s + 8)) (m.memory (rsp_of m));
      answer =
          word_is w (rsp s) (m.memory (rsp_of m)) _ (omega arith) (ap (word_at w) q ∙ hold)
          ∙ within_is (rsp s + 8) (λ a. caller (with_rip (with_rsp s a) (m.memory (rsp_of m)))) (omega arith);
      sized = record { general = length-set s.gpr 4 _ ∙ l; xmm = z.xmm };
      rip = refl;
      stack = get_or-set_same s.gpr 4 _ 0 (omega arith) ∙ omega arith;
      general = record { known = λ x p n. absurd (n tt); stays = λ x p n. get_or-set_other s.gpr 4 x _ 0 p };
      xmm = record { known = λ x p n. absurd (n tt); stays = λ x p n. refl };
    }

back_frame : (w : Window) (entry : Entry) (f : Frame) (m : Machine) (e : Bool) (s : State) → length m.registers.gpr ≡ 16
    → ActsFit entry f (trap e ∷ []) m → Ends entry (trap e ∷ []) → HoldsActs w entry f (trap e ∷ []) m → Sized s
    → rsp s ≡ rsp_of (push_frame entry e m) → Result entry m [] [] s (undo_machine_frame w e s)
back_frame w entry f m e s lm fit en hold z q =
    let p : Machine = push_frame entry e m in
    let l = z.general in
    let h : FitsEntry entry m = fit.1 in
    let low : rsp_of p + error_bytes e + 24 < 2 ^ 64 = below entry e lm fit.0 h en in
    let e1 : rsp s + error_bytes e ≡ rsp_of p + error_bytes e = ap (λ a. a + error_bytes e) q in
    let e2 : rsp s + error_bytes e + 24 ≡ rsp_of p + error_bytes e + 24 = ap (λ a. a + error_bytes e + 24) q in
    record {
      state = with_rip (with_rsp s (p.memory (rsp_of p + error_bytes e + 24))) (p.memory (rsp_of p + error_bytes e));
      answer =
          word_is w (rsp s + error_bytes e) (p.memory (rsp_of p + error_bytes e)) _ (omega arith) (ap (word_at w) e1 ∙ hold.0)
          ∙ word_is w (rsp s + error_bytes e + 24) (p.memory (rsp_of p + error_bytes e + 24)) _ (omega arith) (ap (word_at w) e2 ∙ hold.1.0);
      sized = record { general = length-set s.gpr 4 _ ∙ l; xmm = z.xmm };
      rip = ripped entry e lm fit.0 en;
      stack = get_or-set_same s.gpr 4 _ 0 (omega arith) ∙ stacked entry e lm fit.0 en;
      general = record { known = λ x p n. absurd (n tt); stays = λ x p n. get_or-set_other s.gpr 4 x _ 0 p };
      xmm = record { known = λ x p n. absurd (n tt); stays = λ x p n. refl };
    }
  where
    below : (entry : Entry) (e : Bool) → length m.registers.gpr ≡ 16 → ActFits entry f (trap e) m → FitsEntry entry m
        → Ends entry (trap e ∷ []) → rsp_of (push_frame entry e m) + error_bytes e + 24 < 2 ^ 64
    below called e l fit h en = omega (arith, (frame_made e m l fit).stack)
    below (interrupted x) e l fit h en = rw en at h

    ripped : (entry : Entry) (e : Bool) → length m.registers.gpr ≡ 16 → ActFits entry f (trap e) m → Ends entry (trap e ∷ [])
        → (push_frame entry e m).memory (rsp_of (push_frame entry e m) + error_bytes e) ≡ (caller_of entry m).rip
    ripped called e l fit en = (frame_made e m l fit).rip
    ripped (interrupted x) e l fit en = ap (λ y. m.memory (rsp_of m + error_bytes y)) (sym en)

    stacked : (entry : Entry) (e : Bool) → length m.registers.gpr ≡ 16 → ActFits entry f (trap e) m → Ends entry (trap e ∷ [])
        → (push_frame entry e m).memory (rsp_of (push_frame entry e m) + error_bytes e + 24) ≡ caller_rsp entry m
    stacked called e l fit en = (frame_made e m l fit).old
    stacked (interrupted x) e l fit en = ap (λ y. m.memory (rsp_of m + error_bytes y + 24)) (sym en)

-- ---- the induction

module _ (base : Base) (w : Window) (entry : Entry) (f : Frame) (mf : Bool) (m : Machine) (f4 : f.register ≢ 4) (zm : Sized m.registers) where
  -- one act undone, and the rest
  abbrev Rest : List Act → State → Type 0
  Rest cs s = Result entry m (owed cs) (owed_xmm cs) s (undo_acts base w f cs s)

  undone_first : (c : Act) (cs : List Act) (s t : State) → undo_act base w f c s ≡ on t → (h : Rest cs t)
      → Mends (λ x. x ≢ 4) (owed (c ∷ cs)) m.registers.gpr s.gpr h.state.gpr
      → Mends (λ x. Unit {0}) (owed_xmm (c ∷ cs)) m.registers.xmm s.xmm h.state.xmm
      → Rest (c ∷ cs) s
  undone_first c cs s t e h general xmm =
      record {
        state = h.state;
        answer = ap (λ u. and_then u (undo_acts base w f cs)) e ∙ h.answer;
        sized = h.sized;
        rip = h.rip;
        stack = h.stack;
        general = general;
        xmm = xmm;
      }

  back_push : (r : ℕ) (cs : List Act) (s : State) → Good f.register mf (push r ∷ cs) → ActsFit entry f (push r ∷ cs) m
      → HoldsActs w entry f (push r ∷ cs) m → Sized s → rsp s ≡ rsp_of (acts entry f (push r ∷ cs) m)
      → ((t : State) → Sized t → rsp t ≡ rsp_of (acts entry f cs m) → Rest cs t) → Rest (push r ∷ cs) s
  back_push r cs s g fit hold z q rest =
      let p : Machine = acts entry f cs m in
      let v : ℕ = gpr p.registers r in
      let lp : length p.registers.gpr ≡ 16 = size_is entry f m cs ∙ zm.general in
      let l = z.general in
      let low : 8 ≤ rsp_of p = fit.0 in
      let up = high entry m (entry_fits entry f m cs fit.1) in
      let deep = rsp_is entry f m f4 zm.general cs fit.1 in
      let q' : rsp s ≡ rsp_of p - 8 = q ∙ push_rsp v p lp in
      let r4 : rsp (with_gpr s r v) ≡ rsp s = get_or-set_other s.gpr r 4 v 0 (λ e. g.1 (sym e)) in
      let t : State = with_rsp (with_gpr s r v) (rsp (with_gpr s r v) + 8) in
      let lr : length (set s.gpr r v) ≡ 16 = length-set s.gpr r v ∙ l in
      let lt : length t.gpr ≡ 16 = length-set (set s.gpr r v) 4 _ ∙ lr in
      let qt : rsp t ≡ rsp_of p = get_or-set_same (set s.gpr r v) 4 _ 0 (omega arith) ∙ omega arith in
      let undone : undo_act base w f (push r) s ≡ on t =
      word_is w (rsp s) v _ (omega arith) (ap (word_at w) q' ∙ hold.0)
      ∙ within_is (rsp (with_gpr s r v) + 8) (λ a. on (with_rsp (with_gpr s r v) a)) (omega arith) in
      let h = rest t (record { general = lt; xmm = z.xmm }) qt in
      let no_frame = unframed f.register mf cs g.3 (omega (arith, g.0)) in
      undone_first (push r) cs s t undone h
      (mend (λ x. x ≢ 4) r (owed cs) m.registers.gpr s.gpr t.gpr h.state.gpr h.general
      (λ n.
      get_or-set_other (set s.gpr r v) 4 r _ 0 g.1
      ∙ get_or-set_same s.gpr r v 0 (omega (arith, g.2))
      ∙ register_is entry f m cs r g.1 (λ b. let y : true ≡ false = sym b ∙ no_frame in let k : ◌≡◌ {A = ℕ} 0 1 = cc in absurd (omega arith)))
      (λ x x4 xr. get_or-set_other (set s.gpr r v) 4 x _ 0 x4 ∙ get_or-set_other s.gpr r x v 0 xr))
      h.xmm

  back_alloc : (n : ℕ) (cs : List Act) (s : State) → Good f.register mf (alloc n ∷ cs) → ActsFit entry f (alloc n ∷ cs) m
      → Sized s → rsp s ≡ rsp_of (acts entry f (alloc n ∷ cs) m)
      → ((t : State) → Sized t → rsp t ≡ rsp_of (acts entry f cs m) → Rest cs t) → Rest (alloc n ∷ cs) s
  back_alloc n cs s g fit z q rest =
      let p : Machine = acts entry f cs m in
      let lp : length p.registers.gpr ≡ 16 = size_is entry f m cs ∙ zm.general in
      let l = z.general in
      let low : n ≤ rsp_of p = fit.0 in
      let up = high entry m (entry_fits entry f m cs fit.1) in
      let deep = rsp_is entry f m f4 zm.general cs fit.1 in
      let q' : rsp s ≡ rsp_of p - n = q ∙ move_rsp_lem (rsp_of p - n) p lp in
      let t : State = with_rsp s (rsp s + n) in
      let lt : length t.gpr ≡ 16 = length-set s.gpr 4 _ ∙ l in
      let qt : rsp t ≡ rsp_of p = get_or-set_same s.gpr 4 _ 0 (omega arith) ∙ omega arith in
      let undone : undo_act base w f (alloc n) s ≡ on t = within_is (rsp s + n) (λ a. on (with_rsp s a)) (omega arith) in
      let h = rest t (record { general = lt; xmm = z.xmm }) qt in
      undone_first (alloc n) cs s t undone h
      (same (λ x. x ≢ 4) (owed cs) m.registers.gpr s.gpr t.gpr h.state.gpr h.general
      (λ x x4 n. get_or-set_other s.gpr 4 x _ 0 x4))
      h.xmm

  -- the frame register is still wrong afterwards: an act before this one pushed it
  back_set : (cs : List Act) (s : State) → Good f.register mf (frame ∷ cs) → ActsFit entry f (frame ∷ cs) m
      → Sized s → gpr s f.register ≡ gpr (acts entry f (frame ∷ cs) m).registers f.register
      → ((t : State) → Sized t → rsp t ≡ rsp_of (acts entry f cs m) → Rest cs t) → Rest (frame ∷ cs) s
  back_set cs s g fit z q rest =
      let p : Machine = acts entry f cs m in
      let lp : length p.registers.gpr ≡ 16 = size_is entry f m cs ∙ zm.general in
      let l = z.general in
      let f16 : f.register < 16 = owed_small f.register mf cs f.register g.2 g.1 in
      let q' : gpr s f.register ≡ rsp_of p + f.offset =
      q ∙ get_or-set_same p.registers.gpr f.register (rsp_of p + f.offset) 0 (omega arith) in
      let t : State = with_rsp s (gpr s f.register - f.offset) in
      let lt : length t.gpr ≡ 16 = length-set s.gpr 4 _ ∙ l in
      let qt : rsp t ≡ rsp_of p = get_or-set_same s.gpr 4 _ 0 (omega arith) ∙ omega arith in
      let undone : undo_act base w f frame s ≡ on t =
      less_is (gpr s f.register) f.offset (λ a. on (with_rsp s a)) (omega arith) in
      let h = rest t (record { general = lt; xmm = z.xmm }) qt in
      undone_first frame cs s t undone h
      (same (λ x. x ≢ 4) (owed cs) m.registers.gpr s.gpr t.gpr h.state.gpr h.general
      (λ x x4 n. get_or-set_other s.gpr 4 x _ 0 x4))
      h.xmm

  -- a save does not move what must be right, also where it is the frame register that was saved
  ready_save : (b : Bool) (r : ℕ) (p : Machine) (s : State) → r ≢ 4 → r < 16 → Sized s → Ready f b p.registers s
      → Ready f b p.registers (with_gpr s r (gpr p.registers r))
  ready_save false r p s r4 r16 z q = get_or-set_other s.gpr r 4 _ 0 (λ e. r4 (sym e)) ∙ q
  ready_save true r p s r4 r16 z q = go (ℕ_discrete f.register r)
    where
      l : length s.gpr ≡ 16
      l = z.general

      go : Dec (f.register ≡ r) → gpr (with_gpr s r (gpr p.registers r)) f.register ≡ gpr p.registers f.register
      go (yes e) = rw e (get_or-set_same s.gpr r (gpr p.registers r) 0 (omega arith))
      go (no n) = get_or-set_other s.gpr r f.register _ 0 n ∙ q

  back_save : (r o : ℕ) (cs : List Act) (s : State) → Good f.register mf (save r o ∷ cs) → ActsFit entry f (save r o ∷ cs) m
      → HoldsActs w entry f (save r o ∷ cs) m → RightBase base entry f m (save r o ∷ cs) → Sized s
      → Ready f (framed cs) (acts entry f cs m).registers s
      → ((t : State) → Sized t → Ready f (framed cs) (acts entry f cs m).registers t → Rest cs t) → Rest (save r o ∷ cs) s
  back_save r o cs s g fit hold right z q rest =
      let p : Machine = acts entry f cs m in
      let v : ℕ = gpr p.registers r in
      let l = z.general in
      let t : State = with_gpr s r v in
      let lt : length t.gpr ≡ 16 = length-set s.gpr r v ∙ l in
      let undone : undo_act base w f (save r o) s ≡ on t =
      right.0 s (λ b. word w (b + o) (λ v. on (with_gpr s r v))) q ∙ word_is w (rsp_of p + o) v (λ v. on (with_gpr s r v)) fit.0 hold.0 in
      let h = rest t (record { general = lt; xmm = z.xmm }) (ready_save (framed cs) r p s g.0 g.1 z q) in
      undone_first (save r o) cs s t undone h
      (mend (λ x. x ≢ 4) r (owed cs) m.registers.gpr s.gpr t.gpr h.state.gpr h.general
      (λ n.
      get_or-set_same s.gpr r v 0 (omega (arith, g.1))
      ∙ register_is entry f m cs r g.0 (λ b e. framed_owed f.register mf cs g.4 b (rw e at n)))
      (λ x x4 xr. get_or-set_other s.gpr r x v 0 xr))
      h.xmm

  back_xmm : (x o : ℕ) (cs : List Act) (s : State) → Good f.register mf (save_xmm x o ∷ cs) → ActsFit entry f (save_xmm x o ∷ cs) m
      → HoldsActs w entry f (save_xmm x o ∷ cs) m → RightBase base entry f m (save_xmm x o ∷ cs) → Sized s
      → Ready f (framed cs) (acts entry f cs m).registers s
      → ((t : State) → Sized t → Ready f (framed cs) (acts entry f cs m).registers t → Rest cs t) → Rest (save_xmm x o ∷ cs) s
  back_xmm x o cs s g fit hold right z q rest =
      let p : Machine = acts entry f cs m in
      let low : ℕ = xmm_low p x in
      let top : ℕ = xmm_high p x in
      let l = z.xmm in
      let t : State = with_xmm s x low top in
      let lh : length (set s.xmm (2 * x) low) ≡ 32 = length-set s.xmm (2 * x) low ∙ l in
      let lt : length t.xmm ≡ 32 = length-set (set s.xmm (2 * x) low) (2 * x + 1) top ∙ lh in
      let x16 : x < 16 = g.0 in
      let fit' : rsp_of p + o + 8 < 2 ^ 64 = fit.0 in
      let undone : undo_act base w f (save_xmm x o) s ≡ on t =
      right.0 s (λ b. word w (b + o) (λ low. word w (b + o + 8) (λ high. on (with_xmm s x low high)))) q
      ∙ word_is w (rsp_of p + o) low (λ low. word w (rsp_of p + o + 8) (λ high. on (with_xmm s x low high))) (omega arith) hold.0
      ∙ word_is w (rsp_of p + o + 8) top (λ high. on (with_xmm s x low high)) fit' hold.1 in
      let h = rest t (record { general = z.general; xmm = lt }) (ready (framed cs) p q) in
      let same-xmm : p.registers.xmm ≡ m.registers.xmm = xmm_is entry f m cs in
      undone_first (save_xmm x o) cs s t undone h
      h.general
      (mend (λ j. Unit {0}) (2 * x) ((2 * x + 1) ∷ owed_xmm cs) m.registers.xmm s.xmm (set s.xmm (2 * x) low) h.state.xmm
      (mend (λ j. Unit {0}) (2 * x + 1) (owed_xmm cs) m.registers.xmm (set s.xmm (2 * x) low) t.xmm h.state.xmm h.xmm
      (λ n.
      get_or-set_same (set s.xmm (2 * x) low) (2 * x + 1) top 0 (omega arith) ∙ ap (λ r. get_or r (2 * x + 1) 0) same-xmm)
      (λ j _ e. get_or-set_other (set s.xmm (2 * x) low) (2 * x + 1) j top 0 e))
      (λ n. get_or-set_same s.xmm (2 * x) low 0 (omega arith) ∙ ap (λ r. get_or r (2 * x) 0) same-xmm)
      (λ j _ e. get_or-set_other s.xmm (2 * x) j low 0 e))
    where
      ready : (b : Bool) (p : Machine) → Ready f b p.registers s → Ready f b p.registers (with_xmm s x (xmm_low p x) (xmm_high p x))
      ready false p q = q
      ready true p q = q

  pub back : (cs : List Act) (s : State) → Good f.register mf cs → ActsFit entry f cs m → Ends entry cs → HoldsActs w entry f cs m
      → RightBase base entry f m cs → Sized s → Ready f (framed cs) (acts entry f cs m).registers s → Rest cs s
  back [] s g fit en hold right z q = back_end w entry f m s en fit hold z q
  back (push r ∷ cs) s g fit en hold right z q =
      let e : framed cs ≡ false = unframed f.register mf cs g.3 (omega (arith, g.0)) in
      back_push r cs s g fit hold z (rw e at q) (λ t zt qt. back cs t g.3 fit.1 en hold.1 right zt (rw e qt))
  back (alloc n ∷ cs) s g fit en hold right z q =
      let e : framed cs ≡ false = unframed f.register mf cs g.1 g.0 in
      back_alloc n cs s g fit z (rw e at q) (λ t zt qt. back cs t g.1 fit.1 en hold right zt (rw e qt))
  back (frame ∷ cs) s g fit en hold right z q =
      let e : framed cs ≡ false = unframed f.register mf cs g.2 g.0 in
      back_set cs s g fit z q (λ t zt qt. back cs t g.2 fit.1 en hold right zt (rw e qt))
  back (save r o ∷ cs) s g fit en hold right z q =
      back_save r o cs s g fit hold right z q (λ t zt qt. back cs t g.4 fit.1 en hold.1 right.1 zt qt)
  back (save_xmm x o ∷ cs) s g fit en hold right z q =
      back_xmm x o cs s g fit hold right z q (λ t zt qt. back cs t g.3 fit.1 en hold.2 right.1 zt qt)
  back (trap e ∷ cs) s g fit en hold right z q =
      subst
      (λ cs.
      ActsFit entry f (trap e ∷ cs) m
      → Ends entry (trap e ∷ cs)
      → HoldsActs w entry f (trap e ∷ cs) m
      → Ready f (framed cs) (acts entry f (trap e ∷ cs) m).registers s
      → Rest (trap e ∷ cs) s)
      (sym g.0) (λ fit en hold q. ended (back_frame w entry f m e s zm.general fit en hold z q)) fit en hold q
    where
      ended : Result entry m [] [] s (undo_machine_frame w e s) → Rest (trap e ∷ []) s
      ended h =
          record {
            state = h.state;
            answer = ap (λ u. and_then u (undo_acts base w f [])) h.answer;
            sized = h.sized;
            rip = h.rip;
            stack = h.stack;
            general = h.general;
            xmm = h.xmm;
          }
