-- What reading and writing a field answers: the one definition of a field, at each width.
-- Assumes nothing.
use Rattle.std.specs.Prelude.{Result, Ok, Err, ℕ, List, [], ◌∷◌, Bool, false}
use Rattle.answer.specs.declared.Refusal.{Refusal}
use Rattle.answer.specs.Answer.{Answer, answer_of, number}
use Rattle.fields.specs.Field.{read_of, write_of}
use Rattle.fields.specs.Answers.{answer_write_bytes}
use Rattle.cursor.specs.Next.{next_of}
use Rattle.cursor.specs.declared.Cursor.{Cursor}
use Rattle.c_ground.specs.declared.Taken.{Taken}

-- 4.1, 4.3: a number at `at`
abbrev pub read_u8 : List ℕ → ℕ → Result ℕ Refusal
read_u8 s at = read_of Ok Err false 1 s at

abbrev pub read_u16 : Bool → List ℕ → ℕ → Result ℕ Refusal
read_u16 big s at = read_of Ok Err big 2 s at

abbrev pub read_u32 : Bool → List ℕ → ℕ → Result ℕ Refusal
read_u32 big s at = read_of Ok Err big 4 s at

abbrev pub read_u64 : Bool → List ℕ → ℕ → Result ℕ Refusal
read_u64 big s at = read_of Ok Err big 8 s at

-- 4.6: a number, and the place after it
abbrev pub taken : ℕ → Cursor → Result Taken Refusal
taken n k = Ok (record { number = n; place = k })

abbrev pub numbers_of : Taken → List ℕ
numbers_of t = t.number ∷ t.place.at ∷ []

abbrev pub answer_next : Result Taken Refusal → Answer
answer_next = answer_of numbers_of

abbrev pub count_next : ℕ
count_next = 2

-- 4.6: a number at `at`, with the place after it
abbrev pub next_u8 : List ℕ → ℕ → Result Taken Refusal
next_u8 s at = next_of taken Err false 1 s at

abbrev pub next_u16 : Bool → List ℕ → ℕ → Result Taken Refusal
next_u16 big s at = next_of taken Err big 2 s at

abbrev pub next_u32 : Bool → List ℕ → ℕ → Result Taken Refusal
next_u32 big s at = next_of taken Err big 4 s at

abbrev pub next_u64 : Bool → List ℕ → ℕ → Result Taken Refusal
next_u64 big s at = next_of taken Err big 8 s at

-- 4.4, 15.1: the number that writing a field of `width` bytes answers
abbrev pub write_number : ℕ → List ℕ → ℕ → ℕ
write_number width o at = number (answer_write_bytes (write_of width o at))
