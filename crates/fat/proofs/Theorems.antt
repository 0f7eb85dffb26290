-- What is proved of a fat file, for every file.
-- Assumes nothing.
use Rattle.std.specs.Prelude.{Result, Ok, Err, ℕ}
use mathlib.Core.Path.{◌≡◌, refl, sym}
use mathlib.Core.List.{List, ◌++◌, append_assoc}
use mathlib.Core.Bool.{true}
use mathlib.Core.Logic.{⊎_elim}
use Prim.Native.Nat.{ℕ, ◌+◌, ◌*◌, ◌≤◌, ◌<◌}
use native.Mathlib.Nat.{not-suc-le-zero}
use native.Mathlib.Omega.{arith}
use lib.Dec.{T}
use lib.ListN.{length, get_or, take, drop, length-take, length-drop, take-append-drop}
use lib.Seq.{drop-drop, get_or-take, get_or-drop}
use Rattle.answer.specs.Answer.{values, refuse_of, limit, not_found, past_file}
use Rattle.answer.specs.Test.{file_limit}
use Rattle.answer.specs.declared.Refusal.{Refusal}
use Rattle.answer.proofs.Unique.{same}
use Rattle.fields.specs.Number.{number_at}
use Rattle.fields.proofs.Laws.{le_or_lt}
use Rattle.layout.specs.Layout.{placed}
use Rattle.fat_member.specs.FatArch.{fat_arch, read_of}
use Rattle.fat_member.specs.declared.FatArch.{FatArch}
use Rattle.fat_member.proofs.Theorems.{end_at, whole_accepted, end_past}
use Rattle.fat.specs.Fat.{fat_header, fat_magic, open_of, member_at_of, bytes_at_of, start_of}
use Rattle.fat.specs.Answers.{answer_open_fat, count_open_fat}
use Rattle.fat.specs.declared.FatArchBytes.{FatArchBytes}
use Rattle.fat.proofs.Terms.{Header, There, row_at, Good}
use Rattle.fat.proofs.Laws.{header_long, header_count, header_many, header_told, opened_header, opened_refused, opened_stop, opened_all, found_refused, found_at_lem, found_there, found_past, found_inside, inside_is}

-- Each field of the header is where the one before it ends.
pub fields_placed : T (placed 0 fat_header)
fields_placed = tt

-- Opening accepts a file whose header is right and whose members are all accepted..
pub good_opened : (s : List ℕ) (n : ℕ) → Header s n → ((i : ℕ) → i < n → Good s i) → Ok n ≡ open_of s
good_opened s n h g = opened_all s (header_count s h.short h.right h.room h.few h.count) n g refl

-- ..and no other: what it counts is what the header says, and each of them is accepted.
pub opened_good : (s : List ℕ) (n : ℕ) → Ok n ≡ open_of s → Header s n × ((i : ℕ) → i < n → Good s i)
opened_good s n e = (header_told s n (opened_header s e), λ i h. found_there s i e h)

-- The first member that is refused is the answer: those after it are not looked at.
pub first_refusal : (s : List ℕ) (n i : ℕ) (k : Refusal) → Header s n → i < n → ((j : ℕ) → j < i → Good s j)
    → Err k ≡ read_of fat_arch s (row_at i) → Err k ≡ open_of s
first_refusal s n i k h l g r = opened_stop s (header_count s h.short h.right h.room h.few h.count) i g l r

-- Count 0 is accepted, whatever follows.
pub none_accepted : (s : List ℕ) → Header s 0 → open_of s ≡ Ok 0
none_accepted s h = sym (good_opened s 0 h (λ i l. absurd (not-suc-le-zero l)))

-- A file whose fat_archs are all there, and whose members end at its length or before, opens.
pub within_opened : (s : List ℕ) (n : ℕ) → Header s n → 8 + 20 * n ≤ length s → ((i : ℕ) → i < n → end_at s (row_at i) ≤ length s)
    → open_of s ≡ Ok n
within_opened s n h r e =
    sym (good_opened s n h (λ i l. record { member = _; is = sym (whole_accepted s (row_at i) (omega arith) (e i l)) }))

-- The first member that ends after the file, by a byte or more, is 14 in every door, whichever member is asked for: it is never shown as
-- an empty one. What follows its size need not be there.
module _ (s : List ℕ) (n i : ℕ) (h : Header s n) (l : i < n) (g : (j : ℕ) → j < i → Good s j) (r : row_at i + 16 ≤ length s)
    (past : length s < end_at s (row_at i)) where
  pub past_refused : open_of s ≡ Err (refuse_of past_file)
  past_refused = sym (first_refusal s n i (refuse_of past_file) h l g (sym (end_past s (row_at i) r past)))

  pub past_not_shown : (j : ℕ) → member_at_of s j ≡ Err (refuse_of past_file)
  past_not_shown j = sym (found_refused s j (sym past_refused))

-- A count of 33 or more is 3 in every door, whatever follows and however long the file is.
module _ (s : List ℕ) (r : 8 ≤ length s) (m : number_at true 4 s 0 ≡ fat_magic) where
  pub many_refused : 33 ≤ number_at true 4 s 4 → open_of s ≡ Err (refuse_of limit)
  many_refused n =
      ⊎_elim (λ h. sym (opened_refused s (header_many s h m r (omega arith) refl))) (λ h. sym (opened_refused s (header_long s h refl)))
      (le_or_lt (length s) file_limit)

  pub many_not_shown : (i : ℕ) → 33 ≤ number_at true 4 s 4 → member_at_of s i ≡ Err (refuse_of limit)
  many_not_shown i n = sym (found_refused s i (sym (many_refused n)))

  -- So a Java class file, which has the same magic and a second word of 45 or more, is refused with 3 in every door.
  pub java_refused : (i : ℕ) → 45 ≤ number_at true 4 s 4
      → (open_of s ≡ Err (refuse_of limit)) × (member_at_of s i ≡ Err (refuse_of limit))
  java_refused i n = (many_refused (omega arith), many_not_shown i (omega arith))

-- Of a file that opens, the members below the count are shown, as they are there..
pub found_below : (s : List ℕ) (n i : ℕ) → Ok n ≡ open_of s → i < n
    → (member_at_of s i ≡ read_of fat_arch s (row_at i)) × There (member_at_of s i)
found_below s n i e h =
    let f : read_of fat_arch s (row_at i) ≡ member_at_of s i = found_at_lem s i (row_at i) e h (omega arith) refl in
    (sym f, rw f at (found_there s i e h))

-- ..and none at the count or after it: that is 10.
pub found_above : (s : List ℕ) (n i : ℕ) → Ok n ≡ open_of s → n ≤ i → member_at_of s i ≡ Err (refuse_of not_found)
found_above s n i e h = sym (found_past s i e h refl)

-- Of a file that does not open, every index is answered as opening is.
pub found_none : (s : List ℕ) (k : Refusal) (i : ℕ) → Err k ≡ open_of s → member_at_of s i ≡ Err k
found_none s k i e = sym (found_refused s i e)

-- An accepted member lies in the file, and its part is exactly its bytes.
module _ (s : List ℕ) (i : ℕ) (m : FatArch) (e : member_at_of s i ≡ Ok m) where
  pub found_within : m.offset + m.size ≤ length s
  found_within = inside_is s e (found_inside s i)

  bytes : bytes_at_of s (member_at_of s i) ≡ take m.size (drop m.offset s)
  bytes = rw e

  pub part_length : length (bytes_at_of s (member_at_of s i)) ≡ m.size
  part_length = rw bytes (simp (length-take, length-drop) (omega (arith, found_within)))

  pub part_byte : (j : ℕ) → j < m.size → get_or (bytes_at_of s (member_at_of s i)) j 0 ≡ get_or s (m.offset + j) 0
  part_byte j h = rw (bytes, get_or-take, get_or-drop)

  -- what is before it, the part, and what is after it are the file
  pub part_of_file : take m.offset s ++ bytes_at_of s (member_at_of s i) ++ drop (m.offset + m.size) s ≡ s
  part_of_file =
      rw (
        bytes,
        append_assoc (take m.offset s) (take m.size (drop m.offset s)) (drop (m.offset + m.size) s),
        ← drop-drop
            m.size m.offset s,
        take-append-drop m.size (drop m.offset s),
      )
      (take-append-drop m.offset s)

-- Two answers that meet a promise of this crate are equal.
pub open_unique : (s : List ℕ) {r q : Result ℕ Refusal} → r ≡ open_of s → q ≡ open_of s → r ≡ q
open_unique s = same

pub member_at_unique : (s : List ℕ) (i : ℕ) {r q : Result FatArch Refusal} → r ≡ member_at_of s i → q ≡ member_at_of s i → r ≡ q
member_at_unique s i = same

-- of the file `s` that is at `p`
pub bytes_at_unique : (s : List ℕ) (p : ℕ × ℕ) (i : ℕ) (r q : FatArchBytes)
    → (r.arch ≡ member_at_of s i) × (r.bytes.now ≡ bytes_at_of s (member_at_of s i)) × (r.bytes.ref_ptr ≡ start_of p (member_at_of s i))
    → (q.arch ≡ member_at_of s i) × (q.bytes.now ≡ bytes_at_of s (member_at_of s i)) × (q.bytes.ref_ptr ≡ start_of p (member_at_of s i))
    → r ≡ q
bytes_at_unique s p i r q e f =
    let whole : (x : FatArchBytes) → x ≡ record { arch = x.arch; bytes = record { ref_ptr = x.bytes.ref_ptr; now = x.bytes.now } } = λ x. refl in
    rw (whole r, whole q, same e.0 f.0, same e.1 f.1, same e.2 f.2) refl

-- The answer has as many numbers as it says, zeros where it is refused.
pub open_count : (a : Result ℕ Refusal) → length (values count_open_fat (answer_open_fat a)) ≡ count_open_fat
open_count (Ok n) = refl
open_count (Err k) = refl
