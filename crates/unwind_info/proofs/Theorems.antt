-- What is proved of unwind info, for every input.
-- Assumes nothing.
use Rattle.unwind_info.specs.declared.UnwindInfo.{UnwindInfo}
use Rattle.std.specs.Prelude.{Result, Ok, Err, ℕ, List, ◌≡◌}
use Rattle.answer.specs.declared.Refusal.{Refusal}
use mathlib.Core.Path.{◌≡◌, refl, sym, ap}
use mathlib.Core.List.{List}
use mathlib.Core.Bool.{true, false}
use Prim.Native.Nat.{ℕ, ◌+◌, ◌*◌, ◌%◌, ◌≤◌, ◌<◌}
use native.Mathlib.Omega.{arith}
use lib.ListN.{length}
use lib.Dec.{T}
use Rattle.answer.specs.Answer.{values}
use Rattle.answer.specs.Test.{file_limit}
use Rattle.answer.proofs.Unique.{same}
use Rattle.fields.specs.Number.{number_at}
use Rattle.cursor.proofs.Laws.{Took}
use Rattle.layout.specs.Layout.{placed, numbers_at}
use Rattle.layout.proofs.Laws.{full_is}
use Rattle.runtime_function.specs.RuntimeFunction.{runtime_function, record_of, read_of}
use Rattle.unwind_operation.specs.Operation.{known_version_of}
use Rattle.unwind_info.specs.Unwind.{fields, codes_end, read_header_of, exception_flag, termination_flag, chain_flag, handler_of, chained_at, read_follows_of, info_of, read_info_of}
use Rattle.unwind_info.specs.Answers.{follows_numbers, answer_read_header, count_read_header, answer_read_follows, count_read_follows, answer_read_info, count_read_info, info_numbers}
use Rattle.unwind_info.specs.declared.UnwindHeader.{UnwindHeader}
use Rattle.unwind_info.specs.declared.HandlerKind.TheVariants.{Exception, Termination}
use Rattle.unwind_info.specs.declared.Follows.{Follows}
use Rattle.unwind_info.specs.declared.Follows.TheVariants.{Nothing, Chained, Handler}
use Rattle.unwind_info.proofs.Laws.{header_told, header_start, handler_there, chained_there, follows_chained, follows_exception, follows_termination, follows_nothing, info_by, info_by_lem, info_whole}

-- Each field of the header is where the one before it ends.
pub fields_placed : T (placed 0 fields)
fields_placed = tt

-- A header that is read has a known version, and all of its slots are in the bytes, after its four.
pub header_inside : (s : List ℕ) (at : ℕ) (h : UnwindHeader) → Ok h ≡ read_header_of s at
    → (known_version_of h.version ≡ true) × (h.code_start ≡ at + 4) × (codes_end h ≤ length s)
header_inside s at h e =
    let w = header_told s at e in
    let p = header_start s at w in
    (w.known, p, omega (arith, w.inside))

-- Its frame register is below 16, and its frame offset at most 240, whatever the numbers.
pub header_frame : (s : List ℕ) (at : ℕ) (h : UnwindHeader) → Ok h ≡ read_header_of s at
    → (h.frame_register.0 < 16) × (h.frame_register_offset ≤ 240)
header_frame s at h e =
    let w = header_told s at e in
    let r = ap (λ (g : UnwindHeader). g.frame_register.0) w.value in
    let o = ap (λ (g : UnwindHeader). g.frame_register_offset) w.value in
    (omega (arith, r), omega (arith, o))

-- An odd count of slots has an unused one after it ..
abbrev pub Odd : UnwindHeader → Type 0
Odd h = h.count_of_codes % 2 ≡ 1

module _ (s : List ℕ) (at : ℕ) (h : UnwindHeader) (l : length s ≤ file_limit) (e : Ok h ≡ read_header_of s at) (o : Odd h) where
  -- two bytes after the slots
  abbrev later : ℕ
  later = codes_end h + 2

  place : h.follows_at ≡ later
  place =
      let w = header_told s at e in
      let p : h.follows_at ≡ at + 4 + 2 * (h.count_of_codes + h.count_of_codes % 2) = rw w.value in
      omega (arith, header_start s at w)

  -- .. and what follows is read two bytes later, whatever it is: ..
  pub after_unused : info_by h (read_follows_of s later h.flags) ≡ read_info_of s at
  after_unused = rw (← place) (info_by_lem s at l e)

  -- .. an exception handler, ..
  pub exception_after_unused : chain_flag h.flags ≡ false → exception_flag h.flags ≡ true → later + 4 ≤ length s
      → Ok (info_of h (handler_of s later Exception (number_at false 4 s later))) ≡ read_info_of s at
  exception_after_unused n x r =
      let t : Took false 4 s later (number_at false 4 s later) (later + 4) = record { inside = r; value = refl; past = refl } in
      info_whole s at l e refl {q = read_follows_of s later h.flags} (rw place)
      (sym (follows_exception s later h.flags n x (handler_there s later Exception refl t)))

  -- .. a termination handler, ..
  pub termination_after_unused : chain_flag h.flags ≡ false → exception_flag h.flags ≡ false → termination_flag h.flags ≡ true
      → later + 4 ≤ length s → Ok (info_of h (handler_of s later Termination (number_at false 4 s later))) ≡ read_info_of s at
  termination_after_unused n x y r =
      let t : Took false 4 s later (number_at false 4 s later) (later + 4) = record { inside = r; value = refl; past = refl } in
      info_whole s at l e refl {q = read_follows_of s later h.flags} (rw place)
      (sym (follows_termination s later h.flags n x y (handler_there s later Termination refl t)))

  -- .. or a chained record.
  pub chained_after_unused : chain_flag h.flags ≡ true → later + 12 ≤ length s
      → Ok (info_of h (Chained (record_of (numbers_at false runtime_function s later)))) ≡ read_info_of s at
  unfolding read_of
  chained_after_unused x r =
      let f = full_is false s (λ ns. Ok (record_of ns)) _ runtime_function later r refl in
      info_whole s at l e refl {q = read_follows_of s later h.flags} (rw place)
      (sym (follows_chained s later h.flags x (chained_there s later f refl)))

-- Where nothing follows, the unused slot may be missing.
pub unused_may_be_missing : (s : List ℕ) (at : ℕ) (h : UnwindHeader) → length s ≤ file_limit → Ok h ≡ read_header_of s at
    → chain_flag h.flags ≡ false → exception_flag h.flags ≡ false → termination_flag h.flags ≡ false
    → Ok (info_of h Nothing) ≡ read_info_of s at
unused_may_be_missing s at h l e n x t = info_whole s at l e refl (follows_nothing s h.follows_at h.flags n x t) refl

-- With flag 4, flags 1 and 2 are ignored.
pub chain_first : (s : List ℕ) (at flags : ℕ) → chain_flag flags ≡ true → chained_at s at ≡ read_follows_of s at flags
chain_first s at flags t = follows_chained s at flags t refl

-- Two answers that meet a promise of this crate are equal.
pub read_info_unique : (s : List ℕ) (at : ℕ) {r q : Result UnwindInfo Refusal} → r ≡ read_info_of s at → q ≡ read_info_of s at → r ≡ q
read_info_unique s at = same

pub read_header_unique : (s : List ℕ) (at : ℕ) {r q : Result UnwindHeader Refusal} → r ≡ read_header_of s at → q ≡ read_header_of s at → r ≡ q
read_header_unique s at = same

pub read_follows_unique : (s : List ℕ) (at flags : ℕ) {r q : Result Follows Refusal} → r ≡ read_follows_of s at flags → q ≡ read_follows_of s at flags
    → r ≡ q
read_follows_unique s at flags = same

-- What follows is always four numbers.
pub follows_count : (f : Follows) → length (follows_numbers f) ≡ 4
follows_count Nothing = refl
follows_count (Chained e) = refl
follows_count (Handler h) = refl

-- Each answer has as many numbers as it says, zeros where it is refused.
pub read_header_count : (a : Result UnwindHeader Refusal) → length (values count_read_header (answer_read_header a)) ≡ count_read_header
read_header_count (Ok h) = refl
read_header_count (Err k) = refl

pub read_follows_count : (a : Result Follows Refusal) → length (values count_read_follows (answer_read_follows a)) ≡ count_read_follows
read_follows_count (Ok f) = follows_count f
read_follows_count (Err k) = refl

pub read_info_count : (a : Result UnwindInfo Refusal) → length (values count_read_info (answer_read_info a)) ≡ count_read_info
read_info_count (Ok i) = omega (arith, follows_count i.follows)
read_info_count (Err k) = refl

-- The numbers that it stands for are fixed.
pub info_values_unique : (a : UnwindInfo) {r q : List ℕ} → r ≡ info_numbers a → q ≡ info_numbers a → r ≡ q
info_values_unique a = same
