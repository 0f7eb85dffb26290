-- A table of texts in rows: the row at each place, proved once over the table.
-- Assumes nothing.
use mathlib.Core.Path.{◌≡◌, refl}
use mathlib.Core.List.{List, [], ◌∷◌, ◌++◌}
use Prim.Native.Nat.{ℕ, zero, suc, ◌≤◌, ◌<◌}
use Prim.Native.String.{String}
use native.Mathlib.Nat.{le_of_suc-le-suc, not-suc-le-zero}
use lib.ListN.{length, get_or}
use Rattle.answer.specs.Words.{text_at, padded}

-- the texts, each in its row
abbrev pub rows : ℕ → List String → List (List ℕ)
rows w [] = []
rows w (t ∷ ts) = padded w t ∷ rows w ts

module _ (w : ℕ) (other : String) where
  pub row_at_lem : (ts us : List String) (n : ℕ) → n < length ts → get_or (rows w (ts ++ us)) n [] ≡ padded w (text_at other ts n)
  row_at_lem [] us n h = absurd (not-suc-le-zero h)
  row_at_lem (t ∷ ts) us zero h = refl
  row_at_lem (t ∷ ts) us (suc n) h = row_at_lem ts us n (le_of_suc-le-suc h)

  pub row_past : (ts : List String) (n : ℕ) → length ts ≤ n → padded w other ≡ padded w (text_at other ts n)
  row_past [] n h = refl
  row_past (t ∷ ts) zero h = absurd (not-suc-le-zero h)
  row_past (t ∷ ts) (suc n) h = row_past ts n (le_of_suc-le-suc h)
