-- A table of runtime records: which records are there, where each begins and ends, and when they are in order.
-- Assumes nothing.
use Rattle.std.specs.Prelude.{Result, ℕ, zero, suc, ◌+◌, ◌-◌, ◌*◌, List, Bool, true, false, length, leb, ltb, eqb}
use Rattle.answer.specs.declared.Refusal.{Refusal}
use Rattle.answer.specs.Test.{pick}
use Rattle.layout.specs.Layout.{bytes_in, numbers_at}
use Rattle.runtime_function.specs.RuntimeFunction.{fields, runtime_function, record_of, read_of}
use Rattle.runtime_function.specs.declared.RuntimeFunction.{RuntimeFunction}

-- a table: for each index whether the record is wholly there, its begin and its end
pub record Table : Type 0 where
  pub there : ℕ → Bool
  pub begin : ℕ → ℕ
  pub end : ℕ → ℕ

-- 4.16: a record has 12 bytes
abbrev pub stride : ℕ
stride = bytes_in fields

-- 8.11: record i of a table is 12 × i bytes after its start
abbrev pub place_of : ℕ → ℕ → ℕ
place_of table index = table + stride * index

-- 4.16: the record at a place of the bytes
abbrev pub runtime_at : List ℕ → ℕ → RuntimeFunction
runtime_at s at = record_of (numbers_at false runtime_function s at)

-- 8.11: the table that starts at `table` of the bytes
unfoldable pub table_of : List ℕ → ℕ → Table
table_of s table =
    record {
      there = λ i. leb (place_of table i + stride) (length s);
      begin = λ i. (runtime_at s (place_of table i)).begin;
      end = λ i. (runtime_at s (place_of table i)).end;
    }

-- 8.11, 3.6, 8.14: what reading the record at an index answers: the record, or 1 at the first field that is not whole
unfoldable pub get_entry_of : List ℕ → ℕ → ℕ → Result RuntimeFunction Refusal
get_entry_of s table index = read_of s (place_of table index)

-- 8.7, 3.12, 8.14: `count` records lie within `len` bytes; a table of no records needs no byte
unfoldable pub lies_of : ℕ → ℕ → ℕ → Bool
lies_of len table count = pick (eqb count 0) true (leb (place_of table count) len)

-- it holds of each number below `n`
unfoldable pub each : ℕ → (ℕ → Bool) → Bool
each zero p = true
each (suc n) p = pick (each n p) (p n) false

-- 8.8: each record ends after it begins, and none begins before the one ahead of it ends
unfoldable pub ordered : Table → ℕ → Bool
ordered t count =
    pick (each count (λ i. ltb (t.begin i) (t.end i)))
    (each (count - 1) (λ i. leb (t.end i) (t.begin (suc i))))
    false
