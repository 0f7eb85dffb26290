-- What is proved of the registers and the window, for every input.
-- Assumes nothing.
use Rattle.std.specs.Prelude.{Option, Some, None}
use mathlib.Core.Path.{◌≡◌}
use mathlib.Core.List.{List}
use Prim.Native.Nat.{ℕ, ◌+◌, ◌-◌, ◌*◌, ◌/◌, ◌%◌, ◌<◌, ◌≤◌}
use native.Mathlib.Omega.{arith}
use lib.ListN.{length, get_or}
use borrow.Author.Tests.{eq-eqb, ne_eqb, le-leb, lt-ltb}
use Rattle.answer.proofs.Unique.{same}
use Rattle.unwind_state.specs.State.{gpr, with_gpr, with_rip, with_xmm_low, with_xmm, Window, word_at}
use Rattle.unwind_state.specs.Code.{word_at_of}
use Rattle.unwind_state.specs.declared.State.{State}

module _ (w : Window) where
  -- Word `i` of a window at a multiple of 8 is 8 * `i` bytes above its address.
  pub word_there : (i : ℕ) → w.base % 8 ≡ 0 → i < length w.words → word_at w (w.base + 8 * i) ≡ Some (get_or w.words i 0)
  unfolding word_at
  word_there i a h =
      let aligned : (w.base + 8 * i) % 8 ≡ 0 = omega arith in
      let above : w.base ≤ w.base + 8 * i = omega arith in
      let place : (w.base + 8 * i - w.base) / 8 ≡ i = omega arith in
      simp (eq-eqb _ _ a, eq-eqb _ _ aligned, le-leb _ _ above, place, lt-ltb _ _ h)

  -- A window that is not at a multiple of 8 has no word.
  pub unaligned_window : (a : ℕ) → (w.base % 8 ≡ 0 → ⊥) → word_at w a ≡ None
  unfolding word_at
  unaligned_window a h = simp (ne_eqb _ _ h)

-- Two answers that meet a promise of this crate are equal.
pub get_gpr_unique : (s : State) (n : ℕ) {r q : ℕ} → r ≡ gpr s n → q ≡ gpr s n → r ≡ q
get_gpr_unique s n = same

pub with_gpr_unique : (s : State) (n v : ℕ) {r q : State} → r ≡ with_gpr s n v → q ≡ with_gpr s n v → r ≡ q
with_gpr_unique s n v = same

pub with_rip_unique : (s : State) (v : ℕ) {r q : State} → r ≡ with_rip s v → q ≡ with_rip s v → r ≡ q
with_rip_unique s v = same

pub with_xmm_low_unique : (s : State) (n v : ℕ) {r q : State} → r ≡ with_xmm_low s n v → q ≡ with_xmm_low s n v → r ≡ q
with_xmm_low_unique s n v = same

pub with_xmm_unique : (s : State) (n low high : ℕ) {r q : State} → r ≡ with_xmm s n low high → q ≡ with_xmm s n low high → r ≡ q
with_xmm_unique s n low high = same

pub word_at_unique : (w : List ℕ) (base a : ℕ) {r q : Option ℕ} → r ≡ word_at_of w base a → q ≡ word_at_of w base a → r ≡ q
word_at_unique w base a = same
