-- The answers (2.1): why a door refuses, the number of each reason, and what an answer stands for, whatever enum it is written as.
-- Assumes nothing.
use Rattle.std.specs.Prelude.{ℕ, [], ◌∷◌, ◌^◌, List, Bool, true, false, replicate, ltb, Result, Ok, Err}
use Rattle.answer.specs.declared.Reason.{Reason}
use Rattle.answer.specs.declared.Reason.TheVariants as reason
use Rattle.answer.specs.declared.Refusal.{Refusal}

-- the bytes end before a needed field
abbrev pub short : Reason
short = reason.Short

-- a magic number or a signature is wrong
abbrev pub magic : Reason
magic = reason.Magic

-- a limit is passed
abbrev pub limit : Reason
limit = reason.Limit

-- a size or a count contradicts its table
abbrev pub contradiction : Reason
contradiction = reason.Contradiction

-- an address lies in no section
abbrev pub no_section : Reason
no_section = reason.NoSection

-- the version of an unwind info is not 1 or 2
abbrev pub version : Reason
version = reason.Version

-- an operation is unknown, or its info is
abbrev pub operation : Reason
operation = reason.Operation

-- there are more than 32 links
abbrev pub links : Reason
links = reason.Links

-- a runtime table is not in order
abbrev pub order : Reason
order = reason.Order

-- what is asked for is not there
abbrev pub not_found : Reason
not_found = reason.NotFound

-- a prolog is not strict
abbrev pub not_strict : Reason
not_strict = reason.NotStrict

-- a stack word is not in the window, or an address leaves 64 bits
abbrev pub stack : Reason
stack = reason.Stack

-- what the caller lent is too small
abbrev pub room : Reason
room = reason.Room

-- a fat member reaches past the file
abbrev pub past_file : Reason
past_file = reason.PastFile

-- the machine is not x64
abbrev pub machine : Reason
machine = reason.Machine

-- 2.1: the number of a reason, never 0
abbrev pub number_of_reason : Reason → ℕ
number_of_reason reason.Short = 1
number_of_reason reason.Magic = 2
number_of_reason reason.Limit = 3
number_of_reason reason.Contradiction = 4
number_of_reason reason.NoSection = 5
number_of_reason reason.Version = 6
number_of_reason reason.Operation = 7
number_of_reason reason.Links = 8
number_of_reason reason.Order = 9
number_of_reason reason.NotFound = 10
number_of_reason reason.NotStrict = 11
number_of_reason reason.Stack = 12
number_of_reason reason.Room = 13
number_of_reason reason.PastFile = 14
number_of_reason reason.Machine = 15

-- 2.1: the number of a refusal
abbrev pub number_of : Refusal → ℕ
number_of k = number_of_reason k.reason

-- 2.1: a refusal for that reason
abbrev pub refuse_of : Reason → Refusal
refuse_of why = record { reason = why }

-- 11.10, 4.3: what is missing, and no longer file would have it
unfoldable pub beyond_of : Refusal
beyond_of = refuse_of short

-- the refusal at a field that ends at `end`, by whether that is a length at all
abbrev pub cut_by : Bool → ℕ → Refusal
cut_by true end = refuse_of short
cut_by false end = beyond_of

-- 4.3: the refusal at a field that ends at `end`, past the bytes; a field that ends past 64 bits is in no file
unfoldable pub cut_of : ℕ → Refusal
cut_of end = cut_by (ltb end (2 ^ 64)) end

-- What an answer stands for. For each enum `E` of answers, `answer_e` in the specs of its crate says it of every case: the values of an
-- accepting case in the order of its fields; the values beside an answer 1 that is no refusal; or the refusal. `count_e` says how many
-- values there are.
pub data Answer : Type 0 where
  accepted : List ℕ → Answer
  partly : List ℕ → Answer
  refused : Refusal → Answer

-- a number, which stands for itself alone
abbrev pub alone : ℕ → List ℕ
alone n = n ∷ []

-- 2.2: the answer of a door that accepts values of one type, which stand for those numbers, or refuses
abbrev pub answer_of : {A : Type 0} → (A → List ℕ) → Result A Refusal → Answer
answer_of numbers (Ok a) = accepted (numbers a)
answer_of numbers (Err k) = refused k

-- goes on with what was accepted, or hands the refusal on
abbrev pub on_ok : {A B : Type 0} → Result A Refusal → (Refusal → B) → (A → B) → B
on_ok (Ok a) refusal on = on a
on_ok (Err k) refusal on = refusal k

-- 2.1: the number of an answer: 0 where it is accepted, 1 beside a list that ends at bad bytes
abbrev pub number : Answer → ℕ
number (accepted ns) = 0
number (partly ns) = number_of_reason short
number (refused k) = number_of k

-- 2.2: the `n` numbers beside it: the values, or zeros where it is refused
abbrev pub values : ℕ → Answer → List ℕ
values n (accepted ns) = ns
values n (partly ns) = ns
values n (refused k) = replicate n 0
