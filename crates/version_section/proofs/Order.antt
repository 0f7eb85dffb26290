-- The two byte orders: a record whose fields' bytes are reversed reads in the other order as it did in the first.
-- Assumes nothing.
use mathlib.Core.Path.{◌≡◌, refl, ap}
use mathlib.Core.List.{List, [], ◌∷◌}
use mathlib.Core.Logic.{⊎_elim}
use mathlib.Core.Bool.{Bool, true, false, not}
use Prim.Native.Nat.{ℕ, ◌+◌, ◌≤◌, ◌<◌}
use native.Mathlib.Omega.{arith}
use lib.ListN.{length, take, drop}
use borrow.Author.Tests.{le-leb, lt-leb}
use Rattle.fields.specs.Number.{flip, number_at}
use Rattle.fields.proofs.Number.{flip_flip}
use Rattle.fields.proofs.Laws.{le_or_lt}
use Rattle.layout.specs.Layout.{size, read_by, numbers_at}
use Rattle.layout.proofs.Laws.{read_full}

-- the record at `at` of `t` is that of `s` with the bytes of each field reversed
abbrev pub Mirrored : List ℕ → List ℕ → List ℕ → ℕ → Type 0
Mirrored [] s t at = Unit
Mirrored (w ∷ ws) s t at = (take w (drop at t) ≡ flip (take w (drop at s))) × Mirrored ws s t (at + w)

number_mirrored : (big : Bool) (w : ℕ) (s t : List ℕ) (at : ℕ) → take w (drop at t) ≡ flip (take w (drop at s))
    → number_at (not big) w t at ≡ number_at big w s at
unfolding number_at
number_mirrored true w s t at e = rw e
number_mirrored false w s t at e = rw (e, flip_flip (take w (drop at s)))

-- a record reads the same in the other order
pub numbers_mirrored : (big : Bool) (ws s t : List ℕ) (at : ℕ) → Mirrored ws s t at → numbers_at (not big) ws t at ≡ numbers_at big ws s at
unfolding numbers_at
numbers_mirrored big [] s t at m = refl
numbers_mirrored big (w ∷ ws) s t at m = rw (number_mirrored big w s t at m.0, numbers_mirrored big ws s t (at + w) m.1)

-- a record that does not fit is cut at the same field, whatever the bytes are
read_lost : {A : Type 0} (f g : List ℕ → A) (short : ℕ → A) (b c : Bool) (ws s t : List ℕ) (at : ℕ) → length t ≡ length s
    → length s < at + size ws → 0 < size ws → read_by g short c ws t at ≡ read_by f short b ws s at
unfolding read_by
read_lost f g short b c [] s t at l h n = absurd (let z : 0 < 0 = n in omega arith)
read_lost f g short b c (w ∷ ws) s t at l h n =
    rw l
    (⊎_elim
    (λ r.
    rw (le-leb (at + w) (length s) r)
    (read_lost (λ ns. f (number_at b w s at ∷ ns)) (λ ns. g (number_at c w t at ∷ ns)) short b c ws s t (at + w) l (omega arith)
    (omega arith)))
    (λ r. rw (lt-leb (at + w) (length s) r))
    (le_or_lt (at + w) (length s)))

module _ {A : Type 0} (full : List ℕ → A) (short : ℕ → A) (big : Bool) (ws s t : List ℕ) (at : ℕ) (l : length t ≡ length s)
    (n : 0 < size ws) (m : at + size ws ≤ length s → Mirrored ws s t at) where
  -- what is read of `t` in the other order is what is read of `s`, whole or cut
  pub read_mirrored : read_by full short (not big) ws t at ≡ read_by full short big ws s at
  read_mirrored =
      ⊎_elim
      (λ h. rw (← read_full (not big) t full short ws at (omega arith), ← read_full big s full short ws at h)
      (ap full (numbers_mirrored big ws s t at (m h))))
      (λ h. read_lost full full short big (not big) ws s t at l h n)
      (le_or_lt (at + size ws) (length s))
