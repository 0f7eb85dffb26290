-- What the registers are where the number is past the last.
-- Assumes nothing.
use mathlib.Core.Path.{◌≡◌, refl}
use mathlib.Core.List.{List, [], ◌∷◌, map}
use Prim.Native.Nat.{ℕ, zero, suc, ◌+◌, ◌*◌, ◌≤◌}
use native.Mathlib.Omega.{arith}
use native.Mathlib.Nat.{le_of_suc-le-suc, not-suc-le-zero}
use lib.ListN.{length, get_or, length-map}
use lib.Seq.{set_out}
use Rattle.unwind_state.specs.State.{gpr, with_gpr, with_xmm_low, with_xmm}
use Rattle.unwind_state.specs.declared.State.{State}

get_d_out : (l : List ℕ) (i d : ℕ) → length l ≤ i → d ≡ get_or l i d
get_d_out [] i d h = refl
get_d_out (a ∷ l) zero d h = absurd (not-suc-le-zero h)
get_d_out (a ∷ l) (suc i) d h = get_d_out l i d (le_of_suc-le-suc h)

-- a list of as many registers, as owning a state says it
abbrev pub Has : ℕ → List ℕ → Type 0
Has n l = length (map (λ v. v) l) ≡ n

module _ (s : State) (r : ℕ) (h : 16 ≤ r) where
  pub gpr_past : Has 16 s.gpr → 0 ≡ gpr s r
  gpr_past n = get_d_out s.gpr r 0 (omega (arith, n, length-map s.gpr (λ v. v)))

  pub with_gpr_past : (v : ℕ) → Has 16 s.gpr → s ≡ with_gpr s r v
  with_gpr_past v n = rw (set_out s.gpr r v (omega (arith, n, length-map s.gpr (λ v. v))))

  pub with_low_past : (v : ℕ) → Has 32 s.xmm → s ≡ with_xmm_low s r v
  with_low_past v n = rw (set_out s.xmm (2 * r) v (omega (arith, n, length-map s.xmm (λ v. v))))

  pub with_xmm_past : (low high : ℕ) → Has 32 s.xmm → s ≡ with_xmm s r low high
  with_xmm_past low high n =
      let few : length s.xmm ≤ 2 * r = omega (arith, n, length-map s.xmm (λ v. v)) in
      let more : length s.xmm ≤ 2 * r + 1 = omega arith in
      rw (set_out s.xmm (2 * r) low few, set_out s.xmm (2 * r + 1) high more)
