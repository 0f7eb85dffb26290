-- The doors on opened exception data, where a C caller states the data: another machine is refused with 15 before anything else.
-- Assumes nothing.
use Rattle.runtime_function.specs.declared.RuntimeFunction.{RuntimeFunction}
use Rattle.runtime_lookup.specs.declared.Holder.{Holder}
use Rattle.std.specs.Prelude.{Result, Ok, Err, ℕ, ◌≤◌, ◌≡◌, List}
use Rattle.answer.specs.Answer.{on_ok}
use Rattle.answer.specs.declared.Refusal.{Refusal}
use Rattle.exception_data.specs.Exception.{get_function_of}
use Rattle.runtime_lookup.specs.Lookup.{find_function_of, check_and_find_of, read_limit}
use Rattle.c_opened.specs.Opened.{read_opened_of}

-- 15.8, 8.12: the record at an index
abbrev pub get_function_by : List ℕ → List ℕ → ℕ → Result RuntimeFunction Refusal
get_function_by s ns index = on_ok (read_opened_of ns) Err (λ opened. get_function_of s opened index)

-- 15.8, 9.9: the record that holds an address
abbrev pub find_function_by : List ℕ → List ℕ → ℕ → Result Holder Refusal
find_function_by s ns address = on_ok (read_opened_of ns) Err (λ opened. find_function_of s opened address)

-- 15.8, 9.12: the same of a table that is checked first
abbrev pub check_and_find_by : List ℕ → List ℕ → ℕ → Result Holder Refusal
check_and_find_by s ns address = on_ok (read_opened_of ns) Err (λ opened. check_and_find_of s opened address)

-- 9.10, 15.1: how many records a lookup with this answer may say that it read: from 1 to 26, and 0 where it is refused
abbrev pub Reads : Result Holder Refusal → ℕ → Type 0
Reads (Ok holder) n = (1 ≤ n) × (n ≤ read_limit)
Reads (Err k) n = n ≡ 0
