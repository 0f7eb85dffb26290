-- The definitions on small inputs, by computation.
-- Assumes nothing.
use Rattle.std.specs.Prelude.{Ok, Err}
use mathlib.Core.Path.{◌≡◌, refl}
use mathlib.Core.List.{List, [], ◌∷◌}
use mathlib.Core.Bool.{true, false}
use Prim.Native.Nat.{ℕ}
use Rattle.answer.specs.Answer.{number, refuse_of, cut_of, beyond_of, short, not_found}
use Rattle.answer.specs.Test.{must}
use Rattle.fields.specs.Number.{number_at}
use Rattle.layout.specs.Layout.{read_by, size}
use Rattle.version_section.specs.Section.{section_of, in_file}
use Rattle.version_section.specs.Answers.{answer_count_entries}
use Rattle.version_section.specs.declared.CountEntries.TheVariants as counted
use Rattle.versym.specs.Versym.{entry, versym_of, count_in_of, get_at_in_of, count_of, get_at_of}

-- what the cases compute with
unfoldable computed : ℕ
unfolding get_at_of get_at_in_of section_of in_file read_by number_at must count_of count_in_of cut_of beyond_of
computed = 0

two_bytes : size entry ≡ 2
two_bytes = refl

-- a file whose bytes from 1 on are the entries 2 and, hidden, 0x103
abbrev file : List ℕ
file = 9 ∷ 2 ∷ 0 ∷ 0x03 ∷ 0x81 ∷ []

visible : get_at_of false file 1 4 0 ≡ Ok (record { hidden = false; version = 2 })
unfolding computed
visible = refl

hidden : get_at_of false file 1 4 1 ≡ Ok (record { hidden = true; version = 0x103 })
unfolding computed
hidden = refl

other_order : get_at_of true file 1 4 0 ≡ Ok (record { hidden = false; version = 512 })
unfolding computed
other_order = refl

largest : versym_of 0xFFFF ≡ record { hidden = true; version = 0x7FFF }
largest = refl

past_the_last : get_at_of false file 1 4 2 ≡ Err (refuse_of not_found)
unfolding computed
past_the_last = refl

half_an_entry : get_at_of false file 1 3 1 ≡ Err (refuse_of not_found)
unfolding computed
half_an_entry = refl

all_entries : count_of file 1 4 ≡ Ok (counted.Whole 2)
unfolding computed
all_entries = refl

odd_last_byte : count_of file 0 5 ≡ Ok (counted.Cut 2)
unfolding computed
odd_last_byte = refl

odd_is_one : number (answer_count_entries (count_of file 0 5)) ≡ 1
unfolding computed
odd_is_one = refl

nothing_at_the_end : count_of file 5 0 ≡ Ok (counted.Whole 0)
unfolding computed
nothing_at_the_end = refl

one_past_the_file : count_of file 1 5 ≡ Err (refuse_of short)
unfolding computed
one_past_the_file = refl

-- the sum of start and size does not wrap
far_past_the_file : count_of file 1 18446744073709551615 ≡ Err (refuse_of short)
unfolding computed
far_past_the_file = refl
