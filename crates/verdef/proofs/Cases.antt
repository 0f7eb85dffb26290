-- The definitions on small inputs, by computation.
-- Assumes nothing.
use Rattle.std.specs.Prelude.{Ok, Err}
use mathlib.Core.Path.{◌≡◌, refl}
use mathlib.Core.List.{List, [], ◌∷◌, ◌++◌}
use mathlib.Core.Bool.{false}
use Prim.Native.Nat.{ℕ}
use lib.ListN.{replicate}
use Rattle.answer.specs.Answer.{number, refuse_of, cut_of, short, limit, room}
use Rattle.answer.specs.Test.{must}
use Rattle.fields.specs.Number.{number_at}
use Rattle.fields.specs.Field.{put, stored}
use Rattle.layout.specs.Layout.{read_by, numbers_at}
use Rattle.version_section.specs.Section.{section_of, in_file}
use Rattle.version_section.specs.Answers.{answer_count_entries}
use Rattle.version_section.specs.declared.CountEntries.TheVariants.{Whole, Cut}
use Rattle.version_record.specs.Record.{aux_inside, onward_at_of}
use Rattle.version_list.specs.List.{entries_from, counted_of, out_of, opened, list_of, list_out}
use Rattle.verdef.specs.Verdef.{definitions_of, definitions_out, auxiliaries_of, auxiliaries_out}

-- what the cases compute with
unfoldable computed : ℕ
unfolding definitions_of list_of opened counted_of entries_from onward_at_of aux_inside read_by number_at numbers_at section_of in_file must
    definitions_out list_out out_of stored put cut_of auxiliaries_out auxiliaries_of
computed = 0

-- a definition of index 1 with one auxiliary; after that, at 28, one of index 2 with two
abbrev section : List ℕ
section =
    1 ∷ 0 ∷ 1 ∷ 0 ∷ 1 ∷ 0 ∷ 1 ∷ 0 ∷ 7 ∷ 0 ∷ 0 ∷ 0 ∷ 20 ∷ 0 ∷ 0 ∷ 0 ∷ 28 ∷ 0 ∷ 0 ∷ 0 ∷
    5 ∷ 0 ∷ 0 ∷ 0 ∷ 0 ∷ 0 ∷ 0 ∷ 0 ∷
    1 ∷ 0 ∷ 0 ∷ 0 ∷ 2 ∷ 0 ∷ 2 ∷ 0 ∷ 8 ∷ 0 ∷ 0 ∷ 0 ∷ 20 ∷ 0 ∷ 0 ∷ 0 ∷ 0 ∷ 0 ∷ 0 ∷ 0 ∷
    9 ∷ 0 ∷ 0 ∷ 0 ∷ 8 ∷ 0 ∷ 0 ∷ 0 ∷
    5 ∷ 0 ∷ 0 ∷ 0 ∷ 0 ∷ 0 ∷ 0 ∷ 0 ∷ []

abbrev first : List ℕ
first = 0 ∷ 1 ∷ 1 ∷ 1 ∷ 1 ∷ 7 ∷ 20 ∷ 28 ∷ []

abbrev second : List ℕ
second = 28 ∷ 1 ∷ 0 ∷ 2 ∷ 2 ∷ 8 ∷ 20 ∷ 0 ∷ []

-- the section of a file that has two bytes before it
abbrev file : List ℕ
file = 66 ∷ 66 ∷ section

both : definitions_of false file 2 64 2 (replicate 17 3) ≡ Ok (Whole 2)
unfolding computed
both = refl

both_written : definitions_out false file 2 64 2 (replicate 17 3) ≡ first ++ second ++ (3 ∷ [])
unfolding computed
both_written = refl

-- a next of 0 ends the list before its count does
fewer_than_stated : definitions_of false file 2 64 65535 (replicate 16 3) ≡ Ok (Whole 2)
unfolding computed
fewer_than_stated = refl

-- the count ends it before a next of 0 does
one_stated : definitions_of false file 2 64 1 (replicate 8 3) ≡ Ok (Whole 1)
unfolding computed
one_stated = refl

-- the second definition is cut short: the first is listed, with 1, and the rest of the list stays
one_byte_missing : definitions_of false file 2 47 2 (replicate 16 3) ≡ Ok (Cut 1)
unfolding computed
one_byte_missing = refl

one_byte_missing_number : number (answer_count_entries (definitions_of false file 2 47 2 (replicate 16 3))) ≡ 1
unfolding computed
one_byte_missing_number = refl

one_byte_missing_written : definitions_out false file 2 47 2 (replicate 16 3) ≡ first ++ replicate 8 3
unfolding computed
one_byte_missing_written = refl

-- its first auxiliary would be at the section's end
auxiliary_at_the_end : definitions_of false file 2 48 2 (replicate 16 3) ≡ Ok (Cut 1)
unfolding computed
auxiliary_at_the_end = refl

-- one number too few: 13, and nothing is written
no_room : definitions_of false file 2 64 2 (replicate 15 3) ≡ Err (refuse_of room)
unfolding computed
no_room = refl

no_room_written : definitions_out false file 2 64 2 (replicate 15 3) ≡ replicate 15 3
unfolding computed
no_room_written = refl

section_past_the_file : definitions_of false file 2 65 2 [] ≡ Err (refuse_of short)
unfolding computed
section_past_the_file = refl

-- the count comes before the section
too_many_of_nothing : definitions_of false file 2 65 65536 [] ≡ Err (refuse_of limit)
unfolding computed
too_many_of_nothing = refl

nothing_stated : definitions_of false file 2 64 0 [] ≡ Ok (Whole 0)
unfolding computed
nothing_stated = refl

-- the auxiliaries of the second definition, by the numbers of its row
names : auxiliaries_out false file 2 64 28 20 2 (replicate 7 3) ≡ 48 ∷ 9 ∷ 8 ∷ 56 ∷ 5 ∷ 0 ∷ 3 ∷ []
unfolding computed
names = refl

-- numbers that no definition has
forged : auxiliaries_of false file 2 64 0xFFFFFFFF 0xFFFFFFFF 1 (replicate 7 3) ≡ Ok (Cut 0)
unfolding computed
forged = refl

forged_none : auxiliaries_of false file 2 64 0xFFFFFFFF 0xFFFFFFFF 0 [] ≡ Ok (Whole 0)
unfolding computed
forged_none = refl

forged_many : auxiliaries_of false file 2 64 28 20 65536 [] ≡ Err (refuse_of limit)
unfolding computed
forged_many = refl
