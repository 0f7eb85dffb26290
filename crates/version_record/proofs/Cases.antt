-- The definitions on small inputs, by computation.
-- Assumes nothing.
use Rattle.std.specs.Prelude.{Err}
use mathlib.Core.Path.{◌≡◌, refl}
use mathlib.Core.List.{List, [], ◌∷◌, ◌++◌}
use mathlib.Core.Bool.{true, false}
use Prim.Native.Nat.{ℕ}
use lib.ListN.{replicate}
use Rattle.answer.specs.Answer.{refuse_of, cut_of, short, room}
use Rattle.fields.specs.Number.{number_at}
use Rattle.fields.specs.Field.{put, stored, write_of as written_in}
use Rattle.layout.specs.Layout.{size, read_by, numbers_at}
use Rattle.version_record.specs.Record.{layout, aux_inside, onward_at_of, write_of, write_out}
use Rattle.version_record.specs.declared.VersionRecord.TheVariants.{Verdef, Verdaux, Verneed, Vernaux}
use Rattle.version_record.specs.declared.Onward.TheVariants.{Next, Last, Bad}

-- what the cases compute with
unfoldable computed : ℕ
unfolding onward_at_of aux_inside read_by number_at write_out stored put numbers_at write_of written_in cut_of
computed = 0

-- the sizes that the documents state
definition_size : size (layout Verdef) ≡ 20
definition_size = refl

definition_aux_size : size (layout Verdaux) ≡ 8
definition_aux_size = refl

need_size : size (layout Verneed) ≡ 16
need_size = refl

need_aux_size : size (layout Vernaux) ≡ 16
need_aux_size = refl

-- a need of one auxiliary, which is at `aux`, with the next need at `next`
abbrev need : ℕ → ℕ → List ℕ
need aux next = 1 ∷ 0 ∷ 1 ∷ 0 ∷ 9 ∷ 0 ∷ 0 ∷ 0 ∷ aux ∷ 0 ∷ 0 ∷ 0 ∷ next ∷ 0 ∷ 0 ∷ 0 ∷ []

goes_on : onward_at_of Verneed false (need 15 5) 0 ≡ Next 5
unfolding computed
goes_on = refl

ends : onward_at_of Verneed false (need 15 0) 0 ≡ Last
unfolding computed
ends = refl

-- an auxiliary offset of 0 is the record itself
aux_of_zero : onward_at_of Verneed false (need 0 0) 0 ≡ Last
unfolding computed
aux_of_zero = refl

aux_at_the_end : onward_at_of Verneed false (need 16 5) 0 ≡ Bad
unfolding computed
aux_at_the_end = refl

-- even where the record states no auxiliary: the number of them is not looked at
aux_past_with_none : onward_at_of Verdef false (replicate 12 0 ++ (20 ∷ replicate 7 0)) 0 ≡ Bad
unfolding computed
aux_past_with_none = refl

-- nor is the version field
version_zero : onward_at_of Verdef false (replicate 20 0) 0 ≡ Last
unfolding computed
version_zero = refl

one_byte_missing : onward_at_of Verdef false (replicate 19 0) 0 ≡ Bad
unfolding computed
one_byte_missing = refl

-- the place may be any number
far_past : onward_at_of Verdaux false (replicate 8 0) 18446744073709551615 ≡ Bad
unfolding computed
far_past = refl

other_order : onward_at_of Verdaux true (0 ∷ 0 ∷ 0 ∷ 9 ∷ 0 ∷ 0 ∷ 0 ∷ 8 ∷ []) 0 ≡ Next 8
unfolding computed
other_order = refl

numbers_of_a_need : write_out Verneed false (need 15 5) 0 (7 ∷ 7 ∷ 7 ∷ 7 ∷ 7 ∷ 7 ∷ 7 ∷ []) 1 ≡ 7 ∷ 1 ∷ 1 ∷ 9 ∷ 15 ∷ 5 ∷ 7 ∷ []
unfolding computed
numbers_of_a_need = refl

no_room : write_of Verneed (need 15 5) 0 (7 ∷ 7 ∷ 7 ∷ 7 ∷ 7 ∷ []) 1 ≡ Err (refuse_of room)
unfolding computed
no_room = refl

-- 1 comes before 13
no_record_and_no_room : write_of Verneed [] 0 [] 0 ≡ Err (refuse_of short)
unfolding computed
no_record_and_no_room = refl
