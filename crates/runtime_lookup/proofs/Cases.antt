-- The definitions on small inputs, by computation.
-- Assumes nothing.
use Rattle.runtime_lookup.specs.declared.Holder.{Holder}
use Rattle.std.specs.Prelude.{Result, Ok, Err}
use Rattle.answer.specs.declared.Refusal.{Refusal}
use mathlib.Core.Path.{◌≡◌, refl}
use mathlib.Core.List.{List, [], ◌∷◌, ◌++◌}
use mathlib.Core.Bool.{false}
use Prim.Native.Nat.{ℕ}
use lib.ListN.{take}
use Rattle.answer.specs.Answer.{refuse_of, short, order, not_found, cut_of, beyond_of}
use Rattle.answer.specs.Test.{must}
use Rattle.fields.specs.Number.{number_at, bytes_of}
use Rattle.layout.specs.Layout.{read_by, numbers_at, write_by}
use Rattle.runtime_function.specs.RuntimeFunction.{runtime_function, read_of}
use Rattle.runtime_table.specs.Table.{table_of, get_entry_of, lies_of, each, ordered}
use Rattle.runtime_table.specs.Check.{check_of}
use Rattle.exception_data.specs.declared.ExceptionData.{ExceptionData}
use Rattle.exception_data.specs.declared.RecordForm.TheVariants.{X64}
use Rattle.runtime_lookup.specs.Halving.{Holds, ended, search_from, among, halving}
use Rattle.runtime_lookup.specs.Lookup.{sought_at, find_function_of, check_and_find_of}

-- the bytes of a record from `begin` to `end`
abbrev bytes : ℕ → ℕ → List ℕ
bytes begin end = write_by false runtime_function (begin ∷ end ∷ 4096 ∷ [])

-- the answer of the record from `begin` to `end` at `index`
abbrev answer : ℕ → ℕ → ℕ → Result Holder Refusal
answer begin end index = Ok (record { function = record { begin = begin; end = end; unwind = 4096 }; index = index })

-- a table, as opening answers it
abbrev opened : ℕ → ℕ → ExceptionData
opened table count = record { form = X64; table = table; count = count; sections = record { table = 0; count = 0; alignment = 0 } }

-- one record, and its own begin, the address before it, its last and its end
one_begin : find_function_of (bytes 16 32) (opened 0 1) 16 ≡ answer 16 32 0
unfolding find_function_of must sought_at halving among search_from table_of numbers_at get_entry_of read_of read_by number_at write_by bytes_of
one_begin = refl

one_before : find_function_of (bytes 16 32) (opened 0 1) 15 ≡ Err (refuse_of not_found)
unfolding find_function_of must sought_at halving among search_from table_of numbers_at get_entry_of read_of read_by number_at write_by bytes_of
one_before = refl

one_last : find_function_of (bytes 16 32) (opened 0 1) 31 ≡ answer 16 32 0
unfolding find_function_of must sought_at halving among search_from table_of numbers_at get_entry_of read_of read_by number_at write_by bytes_of
one_last = refl

one_end : find_function_of (bytes 16 32) (opened 0 1) 32 ≡ Err (refuse_of not_found)
unfolding find_function_of must sought_at halving among search_from table_of numbers_at get_entry_of read_of read_by number_at write_by bytes_of
one_end = refl

-- a table that is not in order: the record that is looked at first wins, though a later one holds the address too
abbrev unordered : List ℕ
unordered = bytes 14 128 ++ bytes 108 149 ++ bytes 123 166

first_looked_at : find_function_of unordered (opened 0 3) 132 ≡ answer 108 149 1
unfolding find_function_of must sought_at halving among search_from table_of numbers_at get_entry_of read_of read_by number_at write_by bytes_of
first_looked_at = refl

-- the door that checks the table refuses it
unordered_checked : check_and_find_of unordered (opened 0 3) 132 ≡ Err (refuse_of order)
unfolding check_and_find_of check_of lies_of ordered each find_function_of must sought_at halving among search_from table_of numbers_at get_entry_of
    read_of read_by number_at write_by bytes_of
unordered_checked = refl

-- of two records the second is looked at first, and the first after it
abbrev two : List ℕ
two = bytes 16 32 ++ bytes 48 64

two_looked_at : halving (table_of two 0) 16 2 ≡ ended (Holds 0) 2
unfolding halving among search_from table_of numbers_at number_at write_by bytes_of
two_looked_at = refl

between : check_and_find_of two (opened 0 2) 40 ≡ Err (refuse_of not_found)
unfolding check_and_find_of check_of lies_of ordered each find_function_of must sought_at halving among search_from table_of numbers_at get_entry_of
    read_of read_by number_at write_by bytes_of
between = refl

-- a table cut short answers where the records that are looked at are there, ..
cut_after : find_function_of (take 35 (bytes 16 32 ++ bytes 48 64 ++ bytes 80 96)) (opened 0 3) 16 ≡ answer 16 32 0
unfolding find_function_of must sought_at halving among search_from table_of numbers_at get_entry_of read_of read_by number_at write_by bytes_of
cut_after = refl

-- .. and is 1 where one of them is not whole, though its begin and end are there
cut_at : find_function_of (take 35 (bytes 16 32 ++ bytes 48 64 ++ bytes 80 96)) (opened 0 3) 80 ≡ Err (refuse_of short)
unfolding find_function_of must sought_at halving among search_from table_of numbers_at get_entry_of read_of read_by number_at write_by bytes_of cut_of
cut_at = refl

-- the door that checks the table needs all of it
cut_checked : check_and_find_of (take 35 (bytes 16 32 ++ bytes 48 64 ++ bytes 80 96)) (opened 0 3) 16 ≡ Err (refuse_of short)
unfolding check_and_find_of check_of lies_of must write_by bytes_of cut_of
cut_checked = refl

-- no records, wherever the table is said to be, in both doors
no_records : find_function_of [] (opened 18446744073709551615 0) 0 ≡ Err (refuse_of not_found)
unfolding find_function_of must halving among search_from
no_records = refl

no_records_checked : check_and_find_of [] (opened 18446744073709551615 0) 0 ≡ Err (refuse_of not_found)
unfolding check_and_find_of check_of lies_of ordered each find_function_of must halving among search_from
no_records_checked = refl

-- the record that is looked at first is past 64 bits
past_64_bits : find_function_of [] (opened 18446744073709551615 3) 4294967295 ≡ Err (refuse_of short)
unfolding find_function_of must sought_at halving among search_from table_of get_entry_of read_of read_by cut_of beyond_of
past_64_bits = refl
