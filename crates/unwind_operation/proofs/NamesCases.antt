-- `name_of` on some numbers, by computation.
-- Assumes nothing.
use mathlib.Core.Path.{◌≡◌, refl}
use mathlib.Core.List.{[], ◌∷◌}
use lib.ListN.{replicate}
use Rattle.unwind_operation.specs.Names.{name_of}

stack_pointer_lem : name_of 4 ≡ 36 ∷ 114 ∷ 115 ∷ 112 ∷ 32 ∷ 32 ∷ []
unfolding name_of
stack_pointer_lem = refl

-- XMM n is 17 + n
first_xmm : name_of 17 ≡ 36 ∷ 120 ∷ 109 ∷ 109 ∷ 48 ∷ 32 ∷ []
unfolding name_of
first_xmm = refl

last_xmm : name_of 32 ≡ 36 ∷ 120 ∷ 109 ∷ 109 ∷ 49 ∷ 53 ∷ []
unfolding name_of
last_xmm = refl

none : name_of 33 ≡ replicate 6 32
unfolding name_of
none = refl

none_at_the_end : name_of 255 ≡ replicate 6 32
unfolding name_of
none_at_the_end = refl
