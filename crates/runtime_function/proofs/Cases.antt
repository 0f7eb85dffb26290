-- `read_of` on small inputs, by computation.
-- Assumes nothing.
use Rattle.std.specs.Prelude.{Ok, Err}
use mathlib.Core.Path.{◌≡◌, refl}
use mathlib.Core.List.{[], ◌∷◌}
use Rattle.answer.specs.Answer.{refuse_of, short, cut_of, beyond_of}
use Rattle.fields.specs.Number.{number_at}
use Rattle.layout.specs.Layout.{read_by, size}
use Rattle.runtime_function.specs.RuntimeFunction.{runtime_function, read_of}

twelve_bytes : size runtime_function ≡ 12
twelve_bytes = refl

whole : read_of (9 ∷ 0 ∷ 16 ∷ 0 ∷ 0 ∷ 64 ∷ 16 ∷ 0 ∷ 0 ∷ 4 ∷ 48 ∷ 0 ∷ 0 ∷ []) 1 ≡ Ok (record { begin = 4096; end = 4160; unwind = 12292 })
unfolding read_of read_by number_at
whole = refl

one_byte_missing : read_of (0 ∷ 16 ∷ 0 ∷ 0 ∷ 64 ∷ 16 ∷ 0 ∷ 0 ∷ 4 ∷ 48 ∷ 0 ∷ []) 0 ≡ Err (refuse_of short)
unfolding read_of read_by number_at cut_of
one_byte_missing = refl

nothing_there : read_of [] 18446744073709551615 ≡ Err (refuse_of short)
unfolding read_of read_by number_at cut_of beyond_of
nothing_there = refl
