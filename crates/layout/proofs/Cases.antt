-- The definitions on small tables, by computation.
-- Assumes nothing.
use mathlib.Core.Path.{◌≡◌, refl}
use mathlib.Core.List.{[], ◌∷◌}
use mathlib.Core.Bool.{true, false}
use Rattle.layout.specs.Layout.{field, many, placed, widths, size}

side_by_side : placed 0 (field 0 2 "a" ∷ many 3 (field 2 2 "b") (field 8 4 "c" ∷ [])) ≡ true
side_by_side = refl

overlapping : placed 0 (field 0 4 "a" ∷ field 0 2 "b" ∷ []) ≡ false
overlapping = refl

with_a_gap : placed 0 (field 0 4 "a" ∷ field 6 2 "b" ∷ []) ≡ false
with_a_gap = refl

twelve_bytes : size (widths (field 0 2 "a" ∷ many 3 (field 2 2 "b") (field 8 4 "c" ∷ []))) ≡ 12
twelve_bytes = refl
