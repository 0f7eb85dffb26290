-- The definitions on small inputs, by computation.
-- Assumes nothing.
use Rattle.std.specs.Prelude.{Ok, Err}
use mathlib.Core.Path.{◌≡◌, refl}
use mathlib.Core.List.{List, [], ◌∷◌, ◌++◌}
use mathlib.Core.Bool.{true, false}
use Prim.Native.Nat.{ℕ}
use lib.ListN.{replicate}
use Rattle.answer.specs.Answer.{refuse_of, limit, room}
use Rattle.answer.specs.Test.{must}
use Rattle.fields.specs.Number.{number_at}
use Rattle.fields.specs.Field.{put, stored}
use Rattle.layout.specs.Layout.{read_by, numbers_at}
use Rattle.version_section.specs.Section.{section_of, in_file}
use Rattle.version_section.specs.declared.CountEntries.TheVariants.{Whole, Cut}
use Rattle.version_record.specs.Record.{aux_inside, onward_at_of}
use Rattle.version_record.specs.declared.VersionRecord.TheVariants.{Verneed}
use Rattle.version_list.proofs.Theorems.{Mirrors}
use Rattle.version_list.specs.List.{entries_from, counted_of, out_of, opened, list_of, list_out}
use Rattle.verneed.specs.Verneed.{needs_of, needs_out, auxiliaries_of, auxiliaries_out}

-- what the cases compute with
unfoldable computed : ℕ
unfolding needs_of list_of opened counted_of entries_from onward_at_of aux_inside read_by number_at numbers_at section_of in_file must needs_out
    list_out out_of stored put auxiliaries_of auxiliaries_out
computed = 0

-- a need of one version and, at 32, one of two, the most significant byte first
abbrev section : List ℕ
section =
    0 ∷ 1 ∷ 0 ∷ 1 ∷ 0 ∷ 0 ∷ 0 ∷ 40 ∷ 0 ∷ 0 ∷ 0 ∷ 16 ∷ 0 ∷ 0 ∷ 0 ∷ 32 ∷
    13 ∷ 105 ∷ 105 ∷ 20 ∷ 0 ∷ 0 ∷ 0 ∷ 3 ∷ 0 ∷ 0 ∷ 0 ∷ 50 ∷ 0 ∷ 0 ∷ 0 ∷ 0 ∷
    0 ∷ 1 ∷ 0 ∷ 2 ∷ 0 ∷ 0 ∷ 0 ∷ 60 ∷ 0 ∷ 0 ∷ 0 ∷ 16 ∷ 0 ∷ 0 ∷ 0 ∷ 0 ∷
    0 ∷ 0 ∷ 1 ∷ 0 ∷ 0 ∷ 2 ∷ 128 ∷ 4 ∷ 0 ∷ 0 ∷ 0 ∷ 70 ∷ 0 ∷ 0 ∷ 0 ∷ 17 ∷ []

abbrev first : List ℕ
first = 0 ∷ 1 ∷ 1 ∷ 40 ∷ 16 ∷ 32 ∷ []

abbrev second : List ℕ
second = 32 ∷ 1 ∷ 2 ∷ 60 ∷ 16 ∷ 0 ∷ []

both : needs_of true section 0 64 2 (replicate 12 3) ≡ Ok (Whole 2)
unfolding computed
both = refl

both_written : needs_out true section 0 64 2 (replicate 12 3) ≡ first ++ second
unfolding computed
both_written = refl

-- in the other order the auxiliary offset of the first is past the section
other_order : needs_of false section 0 64 2 (replicate 12 3) ≡ Ok (Cut 0)
unfolding computed
other_order = refl

-- the section with the bytes of each field reversed
abbrev swapped : List ℕ
swapped =
    1 ∷ 0 ∷ 1 ∷ 0 ∷ 40 ∷ 0 ∷ 0 ∷ 0 ∷ 16 ∷ 0 ∷ 0 ∷ 0 ∷ 32 ∷ 0 ∷ 0 ∷ 0 ∷
    20 ∷ 105 ∷ 105 ∷ 13 ∷ 0 ∷ 0 ∷ 3 ∷ 0 ∷ 50 ∷ 0 ∷ 0 ∷ 0 ∷ 0 ∷ 0 ∷ 0 ∷ 0 ∷
    1 ∷ 0 ∷ 2 ∷ 0 ∷ 60 ∷ 0 ∷ 0 ∷ 0 ∷ 16 ∷ 0 ∷ 0 ∷ 0 ∷ 0 ∷ 0 ∷ 0 ∷ 0 ∷
    0 ∷ 1 ∷ 0 ∷ 0 ∷ 2 ∷ 0 ∷ 4 ∷ 128 ∷ 70 ∷ 0 ∷ 0 ∷ 0 ∷ 17 ∷ 0 ∷ 0 ∷ 0 ∷ []

-- it is what `list_mirrored` asks of a byte-swapped section
mirrored : Mirrors Verneed true section swapped 2 0
unfolding computed
mirrored = ((λ h. (refl, (refl, (refl, (refl, (refl, tt)))))), ((λ h. (refl, (refl, (refl, (refl, (refl, tt)))))), tt))

swapped_written : needs_out false swapped 0 64 2 (replicate 12 3) ≡ first ++ second
unfolding computed
swapped_written = refl

no_room : needs_of true section 0 64 2 (replicate 11 3) ≡ Err (refuse_of room)
unfolding computed
no_room = refl

no_room_written : needs_out true section 0 64 2 (replicate 11 3) ≡ replicate 11 3
unfolding computed
no_room_written = refl

-- the second auxiliary of the second need would end past the section: the first is listed, with 1
versions : auxiliaries_of true section 0 64 32 16 2 (replicate 6 3) ≡ Ok (Cut 1)
unfolding computed
versions = refl

versions_written : auxiliaries_out true section 0 64 32 16 2 (replicate 6 3) ≡ 48 ∷ 256 ∷ 2 ∷ 32772 ∷ 70 ∷ 17 ∷ []
unfolding computed
versions_written = refl

-- a next inside the record is followed, and an auxiliary offset of 0 is the record itself
next_inside : needs_out false (replicate 12 0 ++ (4 ∷ replicate 7 0)) 0 20 9 (replicate 12 3) ≡ 0 ∷ 0 ∷ 0 ∷ 0 ∷ 0 ∷ 4 ∷ 4 ∷ 0 ∷ 0 ∷ 0 ∷ 4 ∷ 0
    ∷ []
unfolding computed
next_inside = refl

too_many_of_nothing : needs_of true [] 1 1 65536 [] ≡ Err (refuse_of limit)
unfolding computed
too_many_of_nothing = refl
