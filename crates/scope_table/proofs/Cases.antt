-- `count_in_of` and `entry_in_of` on small inputs, by computation.
-- Assumes nothing.
use Rattle.std.specs.Prelude.{Ok, Err}
use mathlib.Core.Path.{◌≡◌, refl}
use mathlib.Core.List.{List, [], ◌∷◌, ◌++◌}
use Prim.Native.Nat.{ℕ}
use lib.ListN.{take}
use Rattle.answer.specs.Answer.{refuse_of, short, contradiction, not_found, cut_of}
use Rattle.answer.specs.Test.{must}
use Rattle.fields.specs.Number.{number_at}
use Rattle.fields.specs.Field.{read_of as field_of}
use Rattle.layout.specs.Layout.{read_by, size}
use Rattle.scope_table.specs.Scope.{scope_table_entry, read_of, count_from, entry_from, count_in_of, entry_in_of}

sixteen_bytes : size scope_table_entry ≡ 16
sixteen_bytes = refl

-- a table of two entries
abbrev table : List ℕ
table =
    2 ∷ 0 ∷ 0 ∷ 0
    ∷ 0 ∷ 16 ∷ 0 ∷ 0 ∷ 16 ∷ 16 ∷ 0 ∷ 0 ∷ 1 ∷ 0 ∷ 0 ∷ 0 ∷ 32 ∷ 16 ∷ 0 ∷ 0
    ∷ 48 ∷ 16 ∷ 0 ∷ 0 ∷ 64 ∷ 16 ∷ 0 ∷ 0 ∷ 0 ∷ 32 ∷ 0 ∷ 0 ∷ 80 ∷ 16 ∷ 0 ∷ 0 ∷ []

two_entries : count_in_of table ≡ Ok 2
unfolding count_from entry_from read_of field_of must read_by number_at cut_of
two_entries = refl

second_entry : entry_in_of table 1 ≡ Ok (record { begin = 4144; end = 4160; handler = 8192; target = 4176 })
unfolding count_from entry_from read_of field_of must read_by number_at cut_of
second_entry = refl

index_at_the_count : entry_in_of table 2 ≡ Err (refuse_of not_found)
unfolding count_from entry_from read_of field_of must read_by number_at cut_of
index_at_the_count = refl

-- fewer than 4 bytes of data
three_bytes : count_in_of (take 3 table) ≡ Err (refuse_of short)
unfolding count_from entry_from read_of field_of must read_by number_at cut_of
three_bytes = refl

-- the entries do not fit
one_byte_missing : count_in_of (take 35 table) ≡ Err (refuse_of contradiction)
unfolding count_from entry_from read_of field_of must read_by number_at cut_of
one_byte_missing = refl

-- and then there is no entry either, at any index
no_entry_of_a_bad_count : entry_in_of (take 35 table) 0 ≡ Err (refuse_of contradiction)
unfolding count_from entry_from read_of field_of must read_by number_at cut_of
no_entry_of_a_bad_count = refl

-- a count of 0x10000000, whose entries take 2 ^ 32 bytes
count_wraps_nothing : count_in_of (0 ∷ 0 ∷ 0 ∷ 16 ∷ []) ≡ Err (refuse_of contradiction)
unfolding count_from entry_from read_of field_of must read_by number_at cut_of
count_wraps_nothing = refl

no_entries : count_in_of (0 ∷ 0 ∷ 0 ∷ 0 ∷ []) ≡ Ok 0
unfolding count_from entry_from read_of field_of must read_by number_at cut_of
no_entries = refl

-- bytes after the last entry are ignored
more_data_after : count_in_of (table ++ (9 ∷ [])) ≡ Ok 2
unfolding count_from entry_from read_of field_of must read_by number_at cut_of
more_data_after = refl
