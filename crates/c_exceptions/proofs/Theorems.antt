-- Two answers that meet the contract of an exported function are equal, and so is what they leave in lent memory.
-- Assumes nothing.
use mathlib.Core.Path.{◌≡◌}
use mathlib.Core.List.{List}
use Prim.Native.Nat.{ℕ}
use Rattle.answer.proofs.Unique.{same, same_both}
use Rattle.answer.specs.Answer.{number, values}
use Rattle.c_exceptions.specs.Stated.{Reads, check_and_find_by, find_function_by, get_function_by}
use Rattle.exception_data.specs.Answers.{answer_open_exception_data, count_open_exception_data}
use Rattle.exception_data.specs.Exception.{open_of}
use Rattle.fields.specs.Answers.{answer_write_bytes}
use Rattle.fields.specs.Field.{write_of}
use Rattle.runtime_function.specs.Answers.{answer_read_runtime_function, count_read_runtime_function}
use Rattle.runtime_function.specs.RuntimeFunction.{read_of, write_out}
use Rattle.runtime_lookup.specs.Answers.{answer_check_and_find, count_check_and_find}
use Rattle.runtime_table.specs.Answers.{answer_check_table}
use Rattle.runtime_table.specs.Check.{check_of}
use lib.ListN.{get_or, take}

pub hullsift_exceptions_open_unique :
    (file : List ℕ) {r q : ℕ} {l k : List ℕ}
    → (r ≡ number (answer_open_exception_data (open_of file))) × (l ≡ values count_open_exception_data (answer_open_exception_data (open_of file)))
    → (q ≡ number (answer_open_exception_data (open_of file))) × (k ≡ values count_open_exception_data (answer_open_exception_data (open_of file)))
    → (r ≡ q) × (l ≡ k)
hullsift_exceptions_open_unique file = same_both

pub hullsift_read_runtime_function_unique :
    (bytes : List ℕ) (at : ℕ) {r q : ℕ} {l k : List ℕ}
    → (r ≡ number (answer_read_runtime_function (read_of bytes at))) ×
    (l ≡ values count_read_runtime_function (answer_read_runtime_function (read_of bytes at)))
    → (q ≡ number (answer_read_runtime_function (read_of bytes at))) ×
    (k ≡ values count_read_runtime_function (answer_read_runtime_function (read_of bytes at)))
    → (r ≡ q) × (l ≡ k)
hullsift_read_runtime_function_unique bytes at = same_both

pub hullsift_write_runtime_function_unique :
    (bytes : List ℕ) (at : ℕ) (begin : ℕ) (end : ℕ) (unwind : ℕ) {r q : ℕ} {l k : List ℕ}
    → (r ≡ number (answer_write_bytes (write_of 12 bytes at))) × (l ≡ write_out bytes at (record { begin = begin; end = end; unwind = unwind }))
    → (q ≡ number (answer_write_bytes (write_of 12 bytes at))) × (k ≡ write_out bytes at (record { begin = begin; end = end; unwind = unwind }))
    → (r ≡ q) × (l ≡ k)
hullsift_write_runtime_function_unique bytes at begin end unwind = same_both

pub hullsift_get_function_unique :
    (file : List ℕ) (opened : List ℕ) (index : ℕ) {r q : ℕ} {l k : List ℕ}
    → (r ≡ number (answer_read_runtime_function (get_function_by file opened index))) ×
    (l ≡ values count_read_runtime_function (answer_read_runtime_function (get_function_by file opened index)))
    → (q ≡ number (answer_read_runtime_function (get_function_by file opened index))) ×
    (k ≡ values count_read_runtime_function (answer_read_runtime_function (get_function_by file opened index)))
    → (r ≡ q) × (l ≡ k)
hullsift_get_function_unique file opened index = same_both

pub hullsift_check_table_unique :
    (file : List ℕ) (table : ℕ) (count : ℕ) {r q : ℕ}
    → r ≡ number (answer_check_table (check_of file table count))
    → q ≡ number (answer_check_table (check_of file table count))
    → r ≡ q
hullsift_check_table_unique file table count = same

-- 9.10: but for the number of records read.
pub hullsift_find_function_unique :
    (file : List ℕ) (opened : List ℕ) (address : ℕ) {r q : ℕ} (l k : List ℕ)
    → (r ≡ number (answer_check_and_find (find_function_by file opened address))) ×
    (take 4 l ≡ values count_check_and_find (answer_check_and_find (find_function_by file opened address))) ×
    (Reads (find_function_by file opened address) (get_or l 4 0))
    → (q ≡ number (answer_check_and_find (find_function_by file opened address))) ×
    (take 4 k ≡ values count_check_and_find (answer_check_and_find (find_function_by file opened address))) ×
    (Reads (find_function_by file opened address) (get_or k 4 0))
    → (r ≡ q) × (take 4 l ≡ take 4 k)
hullsift_find_function_unique file opened address l k e f = (same e.0 f.0, same e.1 f.1)

pub hullsift_check_and_find_unique :
    (file : List ℕ) (opened : List ℕ) (address : ℕ) {r q : ℕ} {l k : List ℕ}
    → (r ≡ number (answer_check_and_find (check_and_find_by file opened address))) ×
    (l ≡ values count_check_and_find (answer_check_and_find (check_and_find_by file opened address)))
    → (q ≡ number (answer_check_and_find (check_and_find_by file opened address))) ×
    (k ≡ values count_check_and_find (answer_check_and_find (check_and_find_by file opened address)))
    → (r ≡ q) × (l ≡ k)
hullsift_check_and_find_unique file opened address = same_both
