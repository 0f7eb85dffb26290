-- What a lookup answers.
-- Assumes nothing.
use Rattle.runtime_lookup.specs.declared.Holder.{Holder}
use Rattle.std.specs.Prelude.{Result, Ok, Err, ℕ, ◌≤◌, List}
use Rattle.answer.specs.Answer.{on_ok, refuse_of, not_found}
use Rattle.answer.specs.declared.Refusal.{Refusal}
use Rattle.answer.specs.Test.{in_limit}
use Rattle.runtime_table.specs.Table.{table_of, get_entry_of}
use Rattle.runtime_table.specs.Check.{check_of}
use Rattle.exception_data.specs.declared.ExceptionData.{ExceptionData}
use Rattle.runtime_lookup.specs.Halving.{Ending, Holds, Gone, Nothing, halving}
use Rattle.runtime_lookup.specs.declared.Found.{Found}

-- what reading the record at an index answers: the record with its index, or 1 where it is not wholly there
unfoldable pub sought_at : List ℕ → ℕ → ℕ → Result Holder Refusal
sought_at s table index =
    on_ok (get_entry_of s table index) Err (λ e. Ok (record { function = e; index = index }))

-- the answer of a search that ends so: 9.4: the record that holds the address; 9.7: 1 where it is not there; 9.6: 10 where none is left
abbrev pub sought_by : List ℕ → ℕ → Ending → Result Holder Refusal
sought_by s table (Holds i) = sought_at s table i
sought_by s table (Gone i) = sought_at s table i
sought_by s table Nothing = Err (refuse_of not_found)

-- 9.9: what a lookup in an opened table answers, but for the number of records read
unfoldable pub find_function_of : List ℕ → ExceptionData → ℕ → Result Holder Refusal
find_function_of s opened a =
    -- 3.1: the file's length (3)
    in_limit Err s
    -- 9.3: on all bytes and numbers the answer is that of halving
    (sought_by s opened.table (halving (table_of s opened.table) a opened.count).ending)

-- 9.12: the table is checked (3, 1, 9) before the lookup (10)
unfoldable pub check_and_find_of : List ℕ → ExceptionData → ℕ → Result Holder Refusal
check_and_find_of s opened a = on_ok (check_of s opened.table opened.count) Err (λ u. find_function_of s opened a)

-- 1.6: a lookup reads at most 26 records
abbrev pub read_limit : ℕ
read_limit = 26

-- 9.10: what is left of an answer without its read count
abbrev pub uncounted : Result Found Refusal → Result Holder Refusal
uncounted (Ok x) = Ok x.holder
uncounted (Err k) = Err k

-- 9.10: the read count of a lookup that finds is any number from 1 to 26
abbrev pub CountedReads : Result Found Refusal → Type 0
CountedReads (Ok x) = (1 ≤ x.reads) × (x.reads ≤ read_limit)
CountedReads (Err k) = Unit
