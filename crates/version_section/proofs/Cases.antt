-- The definitions on small inputs, by computation.
-- Assumes nothing.
use Rattle.std.specs.Prelude.{Ok, Err}
use mathlib.Core.Path.{◌≡◌, refl}
use mathlib.Core.List.{List, [], ◌∷◌}
use Prim.Native.Nat.{ℕ}
use Rattle.answer.specs.Answer.{number, values, refuse_of, cut_of, short, room}
use Rattle.version_section.specs.Section.{section_of, in_file}
use Rattle.version_section.specs.Answers.{answer_count_entries, count_count_entries}
use Rattle.version_section.specs.declared.CountEntries.TheVariants.{Whole, Cut}

abbrev file : List ℕ
file = 1 ∷ 2 ∷ 3 ∷ 4 ∷ 5 ∷ []

in_the_middle : section_of file 1 3 ≡ 2 ∷ 3 ∷ 4 ∷ []
unfolding section_of
in_the_middle = refl

-- a section may end where the file ends
at_the_end : in_file Err file 2 3 (Ok (Whole 9)) ≡ Ok (Whole 9)
unfolding in_file
at_the_end = refl

nothing_at_the_end : in_file Err file 5 0 (Ok (Whole 9)) ≡ Ok (Whole 9)
unfolding in_file
nothing_at_the_end = refl

one_past_the_end : in_file Err file 2 4 (Ok (Whole 9)) ≡ Err (refuse_of short)
unfolding in_file cut_of
one_past_the_end = refl

nothing_past_the_end : in_file Err file 6 0 (Ok (Whole 9)) ≡ Err (refuse_of short)
unfolding in_file cut_of
nothing_past_the_end = refl

-- the answer 1 with a number of entries is no refusal: the number is kept
cut_is_one : number (answer_count_entries (Ok (Cut 7))) ≡ 1
cut_is_one = refl

cut_keeps_its_number : values count_count_entries (answer_count_entries (Ok (Cut 7))) ≡ 7 ∷ []
cut_keeps_its_number = refl

whole_is_zero : number (answer_count_entries (Ok (Whole 7))) ≡ 0
whole_is_zero = refl

refused_is_its_number : number (answer_count_entries (Err (refuse_of room))) ≡ 13
refused_is_its_number = refl

refused_has_a_zero : values count_count_entries (answer_count_entries (Err (refuse_of room))) ≡ 0 ∷ []
refused_has_a_zero = refl
