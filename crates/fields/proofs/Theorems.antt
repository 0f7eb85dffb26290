-- What is proved of fields, for every input. That a function answers its definition is its contract (src/lib.rt).
-- Assumes nothing.
use mathlib.Core.Path.{◌≡◌, refl, sym, ◌∙◌}
use mathlib.Core.List.{List, ◌++◌, append_assoc}
use mathlib.Core.Bool.{Bool, false}
use Prim.Native.Nat.{ℕ, ◌+◌, ◌^◌, ◌≤◌, ◌<◌}
use native.Mathlib.Omega.{arith}
use lib.ListN.{length, take, drop, take-append-drop, length-take}
use lib.Seq.{drop-drop, drop_at}
use Rattle.answer.proofs.Unique.{same, same_both}
use Rattle.answer.specs.Answer.{values}
use Rattle.std.specs.Prelude.{Result, Ok, Err}
use Rattle.answer.specs.declared.Refusal.{Refusal}
use Rattle.fields.specs.Number.{number_at, bytes_of, Bytes}
use Rattle.fields.specs.Field.{fits_of, read_of, put, stored, write_of, write_out}
use Rattle.fields.specs.Answers.{answer_read, count_read, answer_write_bytes, count_write_bytes}
use Rattle.fields.proofs.Number.{length_bytes, number_written, bytes_read}
use Rattle.fields.proofs.Laws.{field_value, length_put, store_refused, stored_put}

put_from : (o : List ℕ) (at : ℕ) (bs : List ℕ) → at ≤ length o → drop at (put o at bs) ≡ bs ++ drop (at + length bs) o
unfolding put
put_from o at bs h =
    let k : length (take at o) ≡ at = length-take at o ∙ omega arith in
    rw (append_assoc (take at o) bs (drop (at + length bs) o)) (drop_at (take at o) (bs ++ drop (at + length bs) o) at k)

number_from : (big : Bool) (w : ℕ) (s t : List ℕ) (at : ℕ) → drop at s ≡ t → number_at big w s at ≡ number_at big w t 0
unfolding number_at
number_from big w s t at e = rw e

-- A number that was written where there is room is read again, whatever the bytes were.
pub read_written : {A : Type 0} (value : ℕ → A) (refusal : Refusal → A) (big : Bool) (w n : ℕ) (o : List ℕ) (at : ℕ) → n < 256 ^ w
    → at + w ≤ length o → read_of value refusal big w (stored o at (bytes_of big w n)) at ≡ value n
read_written value refusal big w n o at h r =
    let b : List ℕ = bytes_of big w n in
    let l : length b ≡ w = length_bytes big w n in
    let p : stored o at b ≡ put o at b = stored_put w o at b l r refl in
    let e : number_at big w (put o at b) at ≡ n = number_from big w (put o at b) _ at (put_from o at b (omega arith)) ∙ number_written big w
    n (drop (at + length b) o) h in
    rw p (sym (field_value value refusal big w (put o at b) at (omega (arith, length_put o at b (omega arith))) (sym e)))

-- Bytes that were read as a number are written again: nothing changes.
pub written_read : (big : Bool) (w : ℕ) (s : List ℕ) (at : ℕ) → Bytes s → at + w ≤ length s
    → stored s at (bytes_of big w (number_at big w s at)) ≡ s
unfolding put
written_read big w s at b h =
    let n : ℕ = number_at big w s at in
    let l : length (bytes_of big w n) ≡ w = length_bytes big w n in
    let p : stored s at (bytes_of big w n) ≡ put s at (bytes_of big w n) = stored_put w s at (bytes_of big w n) l h refl in
    p ∙ rw (
      l,
      bytes_read big w s at h b,
      ← drop-drop w at s,
      append_assoc (take at s) (take w (drop at s)) (drop w (drop at s)),
      take-append-drop w (drop at s),
    ) (take-append-drop at s)

-- Bytes that do not fit leave the buffer as it was.
pub stored_refused : (o : List ℕ) (at : ℕ) (bs : List ℕ) → length o < at + length bs → stored o at bs ≡ o
stored_refused o at bs h = sym (store_refused (length bs) o at bs refl h refl).1

-- Two answers that meet a promise of this crate are equal.
pub read_u8_unique : (s : List ℕ) (at : ℕ) {r q : Result ℕ Refusal} → r ≡ read_of Ok Err false 1 s at
    → q ≡ read_of Ok Err false 1 s at → r ≡ q
read_u8_unique s at = same

pub read_u16_unique : (s : List ℕ) (at : ℕ) (big : Bool) {r q : Result ℕ Refusal} → r ≡ read_of Ok Err big 2 s at
    → q ≡ read_of Ok Err big 2 s at → r ≡ q
read_u16_unique s at big = same

pub read_u32_unique : (s : List ℕ) (at : ℕ) (big : Bool) {r q : Result ℕ Refusal} → r ≡ read_of Ok Err big 4 s at
    → q ≡ read_of Ok Err big 4 s at → r ≡ q
read_u32_unique s at big = same

pub read_u64_unique : (s : List ℕ) (at : ℕ) (big : Bool) {r q : Result ℕ Refusal} → r ≡ read_of Ok Err big 8 s at
    → q ≡ read_of Ok Err big 8 s at → r ≡ q
read_u64_unique s at big = same

-- of `write_u8`, `write_u16`, `write_u32` and `write_u64`, with w = 1, 2, 4 and 8
pub write_unique : (w : ℕ) (big : Bool) (n : ℕ) (o : List ℕ) (at : ℕ) {r q : Result Unit Refusal} {l k : List ℕ}
    → (r ≡ write_of w o at) × (l ≡ write_out big w o at n) → (q ≡ write_of w o at) × (k ≡ write_out big w o at n) → (r ≡ q) × (l ≡ k)
write_unique w big n o at = same_both

pub fits_unique : (len at width : ℕ) {r q : Bool} → r ≡ fits_of len at width → q ≡ fits_of len at width → r ≡ q
fits_unique len at width = same

-- Each answer has as many numbers as it says, zeros where it is refused.
pub read_u8_count : (a : Result ℕ Refusal) → length (values count_read (answer_read a)) ≡ count_read
read_u8_count (Ok n) = refl
read_u8_count (Err k) = refl

pub read_u16_count : (a : Result ℕ Refusal) → length (values count_read (answer_read a)) ≡ count_read
read_u16_count (Ok n) = refl
read_u16_count (Err k) = refl

pub read_u32_count : (a : Result ℕ Refusal) → length (values count_read (answer_read a)) ≡ count_read
read_u32_count (Ok n) = refl
read_u32_count (Err k) = refl

pub read_u64_count : (a : Result ℕ Refusal) → length (values count_read (answer_read a)) ≡ count_read
read_u64_count (Ok n) = refl
read_u64_count (Err k) = refl

pub write_count : (a : Result Unit Refusal) → length (values count_write_bytes (answer_write_bytes a)) ≡ count_write_bytes
write_count (Ok tt) = refl
write_count (Err k) = refl
