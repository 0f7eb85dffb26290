-- A field of lent bytes: the number that `w` bytes from `at` spell, or 1 where they run past the end; and what writing one answers and
-- leaves.
-- Assumes nothing.
use Rattle.std.specs.Prelude.{ℕ, ◌+◌, List, ◌++◌, Bool, length, take, drop, leb, Result, Ok, Err}
use Rattle.answer.specs.Test.{pick}
use Rattle.answer.specs.Answer.{refuse_of, cut_of, room}
use Rattle.answer.specs.declared.Refusal.{Refusal}
use Rattle.fields.specs.Number.{number_at, bytes_of}

-- 4.3: `w` bytes from `at` lie within `len` bytes; the sum is a number without bound, so it never wraps
abbrev pub fits_of : ℕ → ℕ → ℕ → Bool
fits_of len at w = leb (at + w) len

-- 4.1, 4.3: reading a field of `w` bytes at `at`: `value` of its number, or `refused` of the refusal at its end
unfoldable pub read_of : {A : Type 0} → (ℕ → A) → (Refusal → A) → Bool → ℕ → List ℕ → ℕ → A
read_of value refused big w s at =
    pick (leb (at + w) (length s)) (value (number_at big w s at)) (refused (cut_of (at + w)))

-- the `w` bytes at `at`, or the refusal at their end
unfoldable pub bytes_at_of : ℕ → List ℕ → ℕ → Result (List ℕ) Refusal
bytes_at_of w s at = pick (leb (at + w) (length s)) (Ok (take w (drop at s))) (Err (cut_of (at + w)))

-- the bytes `o` with `bs` in place of its own from `at`
unfoldable pub put : List ℕ → ℕ → List ℕ → List ℕ
put o at bs = take at o ++ bs ++ drop (at + length bs) o

-- 4.4: what `o` is after bytes were written to it; where they do not all fit, it is as it was
unfoldable pub stored : List ℕ → ℕ → List ℕ → List ℕ
stored o at bs = pick (leb (at + length bs) (length o)) (put o at bs) o

-- 4.4: what writing `w` bytes answers
unfoldable pub write_of : ℕ → List ℕ → ℕ → Result Unit Refusal
write_of w o at = pick (leb (at + w) (length o)) (Ok tt) (Err (refuse_of room))

-- 4.4: what `o` is after a number was written
abbrev pub write_out : Bool → ℕ → List ℕ → ℕ → ℕ → List ℕ
write_out big w o at n = stored o at (bytes_of big w n)
