-- The definitions on small inputs, by computation.
-- Assumes nothing.
use Rattle.std.specs.Prelude.{Ok, Err}
use mathlib.Core.Path.{◌≡◌, refl}
use mathlib.Core.List.{List, [], ◌∷◌, ◌++◌}
use mathlib.Core.Bool.{false}
use Prim.Native.Nat.{ℕ}
use lib.ListN.{take}
use Rattle.answer.specs.Answer.{refuse_of, short, order, cut_of, beyond_of}
use Rattle.answer.specs.Test.{must}
use Rattle.fields.specs.Number.{number_at, bytes_of}
use Rattle.layout.specs.Layout.{read_by, numbers_at, write_by}
use Rattle.runtime_function.specs.RuntimeFunction.{runtime_function, read_of}
use Rattle.runtime_table.specs.Table.{table_of, get_entry_of, lies_of, each, ordered}
use Rattle.runtime_table.specs.Check.{check_of}

-- the bytes of a record from `begin` to `end`
abbrev bytes : ℕ → ℕ → List ℕ
bytes begin end = write_by false runtime_function (begin ∷ end ∷ 4096 ∷ [])

-- a byte, then two records: from 10 to `end`, and from 20 to 30
abbrev two : ℕ → List ℕ
two end = 7 ∷ bytes 10 end ++ bytes 20 30

-- records may touch, ..
touching : check_of (two 20) 1 2 ≡ Ok tt
unfolding check_of must lies_of ordered each table_of numbers_at number_at write_by bytes_of
touching = refl

-- .. and share no address
sharing : check_of (two 21) 1 2 ≡ Err (refuse_of order)
unfolding check_of must lies_of ordered each table_of numbers_at number_at write_by bytes_of
sharing = refl

-- a record that holds no address
empty : check_of (two 10) 1 2 ≡ Err (refuse_of order)
unfolding check_of must lies_of ordered each table_of numbers_at number_at write_by bytes_of
empty = refl

-- a table that ends one byte past the file, in order or not
one_byte_missing : check_of (take 24 (two 21)) 1 2 ≡ Err (refuse_of short)
unfolding check_of must lies_of write_by bytes_of cut_of
one_byte_missing = refl

-- no record: no byte is needed, wherever the table is said to be
no_records : check_of [] 18446744073709551615 0 ≡ Ok tt
unfolding check_of must lies_of ordered each
no_records = refl

largest_numbers : check_of [] 18446744073709551615 18446744073709551615 ≡ Err (refuse_of short)
unfolding check_of must lies_of cut_of beyond_of
largest_numbers = refl

second : get_entry_of (two 20) 1 1 ≡ Ok (record { begin = 20; end = 30; unwind = 4096 })
unfolding get_entry_of read_of read_by number_at write_by bytes_of
second = refl

third : get_entry_of (two 20) 1 2 ≡ Err (refuse_of short)
unfolding get_entry_of read_of read_by number_at write_by bytes_of cut_of
third = refl
