-- `count_at_of` and `entry_at_of` on small inputs, by computation.
-- Assumes nothing.
use Rattle.std.specs.Prelude.{Ok, Err}
use mathlib.Core.Path.{◌≡◌, refl}
use mathlib.Core.List.{List, [], ◌∷◌}
use Prim.Native.Nat.{ℕ}
use lib.ListN.{take}
use Rattle.answer.specs.Answer.{refuse_of, short, contradiction, version, not_found, cut_of}
use Rattle.answer.specs.Test.{must}
use Rattle.fields.specs.Number.{number_at}
use Rattle.fields.specs.Field.{read_of as field_of}
use Rattle.layout.specs.Layout.{read_by}
use Rattle.runtime_function.specs.RuntimeFunction.{read_of as record_at}
use Rattle.unwind_info.specs.Unwind.{with_slots, rest_at, read_header_of, handler_at, chained_at, read_follows_of, read_info_of}
use Rattle.scope_table.specs.Scope.{read_of, count_from, entry_from}
use Rattle.scope_table.specs.Handler.{table_at, count_at_of, entry_at_of}

-- an info without codes, by its first byte, its handler, and a table of one entry
abbrev info : ℕ → List ℕ
info first =
    first ∷ 0 ∷ 0 ∷ 0
    ∷ 0 ∷ 48 ∷ 0 ∷ 0
    ∷ 1 ∷ 0 ∷ 0 ∷ 0
    ∷ 0 ∷ 16 ∷ 0 ∷ 0 ∷ 16 ∷ 16 ∷ 0 ∷ 0 ∷ 1 ∷ 0 ∷ 0 ∷ 0 ∷ 32 ∷ 16 ∷ 0 ∷ 0 ∷ []

one_entry : count_at_of (info 9) 0 ≡ Ok 1
unfolding count_at_of entry_at_of table_at read_info_of must read_header_of rest_at read_by number_at with_slots read_follows_of handler_at chained_at
    record_at field_of cut_of count_from entry_from read_of
one_entry = refl

its_entry : entry_at_of (info 9) 0 0 ≡ Ok (record { begin = 4096; end = 4112; handler = 1; target = 4128 })
unfolding count_at_of entry_at_of table_at read_info_of must read_header_of rest_at read_by number_at with_slots read_follows_of handler_at chained_at
    record_at field_of cut_of count_from entry_from read_of
its_entry = refl

index_at_the_count : entry_at_of (info 9) 0 1 ≡ Err (refuse_of not_found)
unfolding count_at_of entry_at_of table_at read_info_of must read_header_of rest_at read_by number_at with_slots read_follows_of handler_at chained_at
    record_at field_of cut_of count_from entry_from read_of
index_at_the_count = refl

-- flags 1 and 2: an exception handler
both_flags : count_at_of (info 25) 0 ≡ Ok 1
unfolding count_at_of entry_at_of table_at read_info_of must read_header_of rest_at read_by number_at with_slots read_follows_of handler_at chained_at
    record_at field_of cut_of count_from entry_from read_of
both_flags = refl

-- flag 2 alone
termination_handler : count_at_of (info 17) 0 ≡ Err (refuse_of not_found)
unfolding count_at_of entry_at_of table_at read_info_of must read_header_of rest_at read_by number_at with_slots read_follows_of handler_at chained_at
    record_at field_of cut_of count_from entry_from read_of
termination_handler = refl

no_handler : count_at_of (info 1) 0 ≡ Err (refuse_of not_found)
unfolding count_at_of entry_at_of table_at read_info_of must read_header_of rest_at read_by number_at with_slots read_follows_of handler_at chained_at
    record_at field_of cut_of count_from entry_from read_of
no_handler = refl

-- flag 4
chained : count_at_of (info 33) 0 ≡ Err (refuse_of not_found)
unfolding count_at_of entry_at_of table_at read_info_of must read_header_of rest_at read_by number_at with_slots read_follows_of handler_at chained_at
    record_at field_of cut_of count_from entry_from read_of
chained = refl

version_3 : count_at_of (info 3) 0 ≡ Err (refuse_of version)
unfolding count_at_of entry_at_of table_at read_info_of must read_header_of rest_at read_by number_at with_slots read_follows_of handler_at chained_at
    record_at field_of cut_of count_from entry_from read_of
version_3 = refl

three_bytes_of_data : count_at_of (take 11 (info 9)) 0 ≡ Err (refuse_of short)
unfolding count_at_of entry_at_of table_at read_info_of must read_header_of rest_at read_by number_at with_slots read_follows_of handler_at chained_at
    record_at field_of cut_of count_from entry_from read_of
three_bytes_of_data = refl

count_does_not_fit : count_at_of (take 27 (info 9)) 0 ≡ Err (refuse_of contradiction)
unfolding count_at_of entry_at_of table_at read_info_of must read_header_of rest_at read_by number_at with_slots read_follows_of handler_at chained_at
    record_at field_of cut_of count_from entry_from read_of
count_does_not_fit = refl
