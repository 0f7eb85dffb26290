-- What is proved of the C functions of this crate, for every input: two answers that meet a promise are equal, and so is what they leave in
-- the
-- memory that they were lent.
-- Assumes nothing.
use mathlib.Core.Path.{◌≡◌}
use mathlib.Core.List.{List}
use mathlib.Core.Bool.{Bool, false}
use Prim.Native.Nat.{ℕ}
use Rattle.answer.proofs.Unique.{same, same_both}
use Rattle.answer.specs.Answer.{number, values}
use Rattle.answer.specs.Words.{words_of}
use Rattle.fields.specs.Answers.{answer_read, count_read}
use Rattle.fields.specs.Field.{fits_of, write_out}
use Rattle.c_ground.specs.Fields.{answer_next, count_next, next_u16, next_u32, next_u64, next_u8, read_u16, read_u32, read_u64, read_u8, write_number}

pub hullsift_read_u8_unique : (bytes : List ℕ) (at : ℕ) {r q : ℕ} {l k : List ℕ}
    → (r ≡ number (answer_read (read_u8 bytes at))) × (l ≡ values count_read (answer_read (read_u8 bytes at)))
    → (q ≡ number (answer_read (read_u8 bytes at))) × (k ≡ values count_read (answer_read (read_u8 bytes at))) → (r ≡ q) × (l ≡ k)
hullsift_read_u8_unique bytes at = same_both

pub hullsift_next_u8_unique : (bytes : List ℕ) (at : ℕ) {r q : ℕ} {l k : List ℕ}
    → (r ≡ number (answer_next (next_u8 bytes at))) × (l ≡ values count_next (answer_next (next_u8 bytes at)))
    → (q ≡ number (answer_next (next_u8 bytes at))) × (k ≡ values count_next (answer_next (next_u8 bytes at))) → (r ≡ q) × (l ≡ k)
hullsift_next_u8_unique bytes at = same_both

pub hullsift_read_u16_unique : (bytes : List ℕ) (at : ℕ) (big : Bool) {r q : ℕ} {l k : List ℕ}
    → (r ≡ number (answer_read (read_u16 big bytes at))) × (l ≡ values count_read (answer_read (read_u16 big bytes at)))
    → (q ≡ number (answer_read (read_u16 big bytes at))) × (k ≡ values count_read (answer_read (read_u16 big bytes at)))
    → (r ≡ q) × (l ≡ k)
hullsift_read_u16_unique bytes at big = same_both

pub hullsift_next_u16_unique : (bytes : List ℕ) (at : ℕ) (big : Bool) {r q : ℕ} {l k : List ℕ}
    → (r ≡ number (answer_next (next_u16 big bytes at))) × (l ≡ values count_next (answer_next (next_u16 big bytes at)))
    → (q ≡ number (answer_next (next_u16 big bytes at))) × (k ≡ values count_next (answer_next (next_u16 big bytes at)))
    → (r ≡ q) × (l ≡ k)
hullsift_next_u16_unique bytes at big = same_both

pub hullsift_read_u32_unique : (bytes : List ℕ) (at : ℕ) (big : Bool) {r q : ℕ} {l k : List ℕ}
    → (r ≡ number (answer_read (read_u32 big bytes at))) × (l ≡ values count_read (answer_read (read_u32 big bytes at)))
    → (q ≡ number (answer_read (read_u32 big bytes at))) × (k ≡ values count_read (answer_read (read_u32 big bytes at)))
    → (r ≡ q) × (l ≡ k)
hullsift_read_u32_unique bytes at big = same_both

pub hullsift_next_u32_unique : (bytes : List ℕ) (at : ℕ) (big : Bool) {r q : ℕ} {l k : List ℕ}
    → (r ≡ number (answer_next (next_u32 big bytes at))) × (l ≡ values count_next (answer_next (next_u32 big bytes at)))
    → (q ≡ number (answer_next (next_u32 big bytes at))) × (k ≡ values count_next (answer_next (next_u32 big bytes at)))
    → (r ≡ q) × (l ≡ k)
hullsift_next_u32_unique bytes at big = same_both

pub hullsift_read_u64_unique : (bytes : List ℕ) (at : ℕ) (big : Bool) {r q : ℕ} {l k : List ℕ}
    → (r ≡ number (answer_read (read_u64 big bytes at))) × (l ≡ values count_read (answer_read (read_u64 big bytes at)))
    → (q ≡ number (answer_read (read_u64 big bytes at))) × (k ≡ values count_read (answer_read (read_u64 big bytes at)))
    → (r ≡ q) × (l ≡ k)
hullsift_read_u64_unique bytes at big = same_both

pub hullsift_next_u64_unique : (bytes : List ℕ) (at : ℕ) (big : Bool) {r q : ℕ} {l k : List ℕ}
    → (r ≡ number (answer_next (next_u64 big bytes at))) × (l ≡ values count_next (answer_next (next_u64 big bytes at)))
    → (q ≡ number (answer_next (next_u64 big bytes at))) × (k ≡ values count_next (answer_next (next_u64 big bytes at)))
    → (r ≡ q) × (l ≡ k)
hullsift_next_u64_unique bytes at big = same_both

pub hullsift_write_u8_unique : (bytes : List ℕ) (at number : ℕ) {r q : ℕ} {l k : List ℕ}
    → (r ≡ write_number 1 bytes at) × (l ≡ write_out false 1 bytes at number)
    → (q ≡ write_number 1 bytes at) × (k ≡ write_out false 1 bytes at number) → (r ≡ q) × (l ≡ k)
hullsift_write_u8_unique bytes at number = same_both

pub hullsift_write_u16_unique : (bytes : List ℕ) (at number : ℕ) (big : Bool) {r q : ℕ} {l k : List ℕ}
    → (r ≡ write_number 2 bytes at) × (l ≡ write_out big 2 bytes at number)
    → (q ≡ write_number 2 bytes at) × (k ≡ write_out big 2 bytes at number) → (r ≡ q) × (l ≡ k)
hullsift_write_u16_unique bytes at number big = same_both

pub hullsift_write_u32_unique : (bytes : List ℕ) (at number : ℕ) (big : Bool) {r q : ℕ} {l k : List ℕ}
    → (r ≡ write_number 4 bytes at) × (l ≡ write_out big 4 bytes at number)
    → (q ≡ write_number 4 bytes at) × (k ≡ write_out big 4 bytes at number) → (r ≡ q) × (l ≡ k)
hullsift_write_u32_unique bytes at number big = same_both

pub hullsift_write_u64_unique : (bytes : List ℕ) (at number : ℕ) (big : Bool) {r q : ℕ} {l k : List ℕ}
    → (r ≡ write_number 8 bytes at) × (l ≡ write_out big 8 bytes at number)
    → (q ≡ write_number 8 bytes at) × (k ≡ write_out big 8 bytes at number) → (r ≡ q) × (l ≡ k)
hullsift_write_u64_unique bytes at number big = same_both

pub hullsift_fits_unique : (length at width : ℕ) {r q : Bool}
    → r ≡ fits_of length at width
    → q ≡ fits_of length at width → r ≡ q
hullsift_fits_unique length at width = same

pub hullsift_words_unique : (number : ℕ) {l k : List ℕ}
    → l ≡ words_of number
    → k ≡ words_of number → l ≡ k
hullsift_words_unique number = same
