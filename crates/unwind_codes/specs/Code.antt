-- What the answers of private functions stand for: their contracts cite these maps, and no definition does.
-- Assumes nothing.
use Rattle.std.specs.Prelude.{Result, Ok, Err, Option, Some, None, ℕ, length}
use Rattle.answer.specs.declared.Refusal.{Refusal}
use Rattle.unwind_operation.specs.declared.UnwindCode.{UnwindCode}
use Rattle.unwind_codes.specs.Codes.{CodesEnd, whole, stopped, Codes, Nth, here, fewer, refused_before}

-- how many codes there are, where none is refused
abbrev pub count_by : CodesEnd → ℕ → Result ℕ Refusal
count_by whole n = Ok n
count_by (stopped k) n = Err k

abbrev pub count_in : Codes → Result ℕ Refusal
count_in cs = count_by cs.end (length cs.listed)

-- the code at an index, none where there are fewer
abbrev pub nth_in : Result (Option UnwindCode) Refusal → Nth
nth_in (Ok (Some c)) = here c
nth_in (Ok None) = fewer
nth_in (Err k) = refused_before k
