-- What is proved of the codes of an unwind info, for every input.
-- Assumes nothing.
use Rattle.unwind_codes.specs.declared.CheckedInfo.{CheckedInfo}
use Rattle.std.specs.Prelude.{Result, Ok, Err}
use mathlib.Core.Path.{◌≡◌, refl, ap, ◌∙◌}
use mathlib.Core.List.{List, [], ◌∷◌}
use mathlib.Core.Bool.{Bool, true, false}
use Prim.Native.Nat.{ℕ, zero, suc, ◌+◌, ◌-◌, ◌*◌, ◌≤◌, ◌<◌}
use native.Mathlib.Nat.{le_of_suc-le-suc, not-suc-le-zero}
use native.Mathlib.Omega.{arith}
use lib.ListN.{length, drop, length-take, length-drop}
use lib.Dec.{leb}
use Rattle.answer.specs.Answer.{refuse_of, not_found, values}
use Rattle.answer.specs.Test.{pick, file_limit}
use Rattle.answer.specs.declared.Refusal.{Refusal}
use Rattle.answer.proofs.Unique.{same}
use Rattle.unwind_operation.specs.Operation.{slot_count, next_code_of}
use Rattle.unwind_operation.specs.declared.UnwindCode.{UnwindCode}
use Rattle.unwind_operation.specs.declared.TakenCode.{TakenCode}
use Rattle.unwind_operation.proofs.Laws.{InRange, code_range}
use Rattle.unwind_operation.proofs.Theorems.{operation_count}
use Rattle.unwind_info.specs.Unwind.{read_header_of}
use Rattle.unwind_info.specs.declared.UnwindHeader.{UnwindHeader}
use Rattle.unwind_info.specs.declared.UnwindInfo.{UnwindInfo}
use Rattle.unwind_info.proofs.Theorems.{follows_count}
use Rattle.unwind_codes.specs.Codes.{CodesEnd, whole, stopped, on_codes_end, Codes, finished, codes_from, codes_at, slots_of, codes_of, has, whole_info_at, check_info_of, here, fewer, refused_before, nth_by, nth_of, read_code_of}
use Rattle.unwind_codes.specs.Answers.{answer_check_info, count_check_info, answer_read_code, count_read_code, checked_numbers}
use Rattle.unwind_codes.proofs.Laws.{turn_by, enough, whole_told, code_here, code_past, code_refused}

-- The bound of `codes_from` cuts nothing off: with more than the slots left, the operations are the same.
pub bound_enough : (s : List ℕ) (v frame n at : ℕ) → slot_count s ≤ at + n → codes_from n s at v frame ≡ codes_at s at v frame
unfolding codes_at
bound_enough s v frame n at h = enough s v frame n (slot_count s - at) at h (omega arith)

module _ (s : List ℕ) (v frame : ℕ) where
  most_turn : (n : ℕ) (x : Result TakenCode Refusal) → ((t : TakenCode) → length (codes_from n s t.next v frame).listed ≤ n)
      → length (turn_by s v frame n x).listed ≤ suc n
  most_turn n (Ok t) f = omega (arith, f t)
  most_turn n (Err k) f = omega arith

  most_test : (n : ℕ) (test : Bool) (x : Codes) → length x.listed ≤ n → length (pick test finished x).listed ≤ n
  most_test n true x h = omega arith
  most_test n false x h = h

  from_most : (n at : ℕ) → length (codes_from n s at v frame).listed ≤ n
  unfolding codes_from
  from_most zero at = omega arith
  from_most (suc n) at =
      most_test (suc n) (leb (slot_count s) at) (turn_by s v frame n (next_code_of s at v frame))
      (most_turn n (next_code_of s at v frame) (λ t. from_most n t.next))

-- There are no more operations than slots.
pub codes_most : (s : List ℕ) (v frame : ℕ) → length (codes_at s 0 v frame).listed ≤ slot_count s
unfolding codes_at
codes_most s v frame = omega (arith, from_most s v frame (slot_count s - 0) 0)

-- An info has no more codes than the file has slots.
pub whole_most : (s : List ℕ) (at : ℕ) (i : UnwindInfo) (cs : List UnwindCode) → has i cs ≡ whole_info_at s at
    → (2 * length cs ≤ length s) × (length s ≤ file_limit)
unfolding codes_of
whole_most s at i cs e =
    let p = whole_told s at e in
    let h = i.header in
    let m = codes_most (slots_of s h) h.version h.frame_register.0 in
    let f = ap (λ (ds : Codes). length ds.listed) p.codes in
    let a = length-take (2 * h.count_of_codes) (drop h.code_start s) in
    (omega (arith, m, f, a, length-drop h.code_start s), p.limited)

-- each register of the operations has its number
abbrev pub AllInRange : List UnwindCode → Type 0
AllInRange [] = Unit
AllInRange (c ∷ cs) = InRange c.operation × AllInRange cs

module _ (s : List ℕ) (v frame : ℕ) where
  range_turn : (n at : ℕ) (x : Result TakenCode Refusal) → x ≡ next_code_of s at v frame
      → ((t : TakenCode) → AllInRange (codes_from n s t.next v frame).listed) → AllInRange (turn_by s v frame n x).listed
  range_turn n at (Ok t) e f = (code_range s at v frame e, f t)
  range_turn n at (Err k) e f = tt

  range_test : (test : Bool) (x : Codes) → AllInRange x.listed → AllInRange (pick test finished x).listed
  range_test true x h = tt
  range_test false x h = h

  from_range : (n at : ℕ) → AllInRange (codes_from n s at v frame).listed
  unfolding codes_from
  from_range zero at = tt
  from_range (suc n) at =
      range_test (leb (slot_count s) at) (turn_by s v frame n (next_code_of s at v frame))
      (range_turn n at (next_code_of s at v frame) refl (λ t. from_range n t.next))

-- Each register of an info's codes has its number, whatever the numbers in the file.
pub whole_registers : (s : List ℕ) (at : ℕ) (i : UnwindInfo) (cs : List UnwindCode) → has i cs ≡ whole_info_at s at → AllInRange cs
unfolding codes_of codes_at
whole_registers s at i cs e =
    let p = whole_told s at e in
    let h = i.header in
    let f = ap (λ (ds : Codes). ds.listed) p.codes in
    rw f (from_range (slots_of s h) h.version h.frame_register.0 (slot_count (slots_of s h) - 0) 0)

-- an operation at an index
pub record There (s : List ℕ) (at index : ℕ) : Type 0 where
  pub operation : UnwindCode
  pub is : Ok operation ≡ read_code_of s at index

-- one of a list
record Below (e : CodesEnd) (cs : List UnwindCode) (n : ℕ) : Type 0 where
  pub found : UnwindCode
  pub is : here found ≡ nth_by e cs n

nth_below : (e : CodesEnd) (cs : List UnwindCode) (n : ℕ) → n < length cs → Below e cs n
nth_below e [] n h = absurd (not-suc-le-zero h)
nth_below e (c ∷ cs) zero h = record { found = c; is = refl }
nth_below e (c ∷ cs) (suc n) h = let r = nth_below e cs n (le_of_suc-le-suc h) in record { found = r.found; is = r.is }

nth_above : (e : CodesEnd) (cs : List UnwindCode) (n : ℕ) → length cs ≤ n → on_codes_end e refused_before fewer ≡ nth_by e cs n
nth_above e [] n h = refl
nth_above e (c ∷ cs) zero h = absurd (not-suc-le-zero h)
nth_above e (c ∷ cs) (suc n) h = nth_above e cs n (le_of_suc-le-suc h)

-- Where all codes of an info are decoded, there is one at each index below their number ..
pub code_below : (s : List ℕ) (at : ℕ) (i : UnwindInfo) (cs : List UnwindCode) (n : ℕ) → has i cs ≡ whole_info_at s at → n < length cs
    → There s at n
code_below s at i cs n e h =
    let p = whole_told s at e in
    let r = nth_below whole cs n h in
    let g : here r.found ≡ nth_of (codes_of s i.header) n = r.is ∙ ap (λ (ds : Codes). nth_of ds n) p.codes in
    record { operation = r.found; is = code_here s at n p.limited p.headed refl g p.followed refl refl }

-- .. and at any other index the answer is 10.
pub code_above : (s : List ℕ) (at : ℕ) (i : UnwindInfo) (cs : List UnwindCode) (n : ℕ) → has i cs ≡ whole_info_at s at → length cs ≤ n
    → Err (refuse_of not_found) ≡ read_code_of s at n
code_above s at i cs n e h =
    let p = whole_told s at e in
    let g : fewer ≡ nth_of (codes_of s i.header) n = nth_above whole cs n h ∙ ap (λ (ds : Codes). nth_of ds n) p.codes in
    code_past s at n p.limited p.headed refl g p.followed refl refl refl

-- An operation that is refused refuses its own index and every later one, each time for the same reason.
pub code_after_refused : (s : List ℕ) (at : ℕ) (h : UnwindHeader) (k : Refusal) (n : ℕ) → length s ≤ file_limit
    → Ok h ≡ read_header_of s at → (codes_of s h).end ≡ stopped k → length (codes_of s h).listed ≤ n → Err k ≡ read_code_of s at n
code_after_refused s at h k n l e d m =
    let g = nth_above (codes_of s h).end (codes_of s h).listed n m in
    code_refused s at n l e refl g (rw d)

-- Two answers that meet a promise of this crate are equal.
pub check_info_unique : (s : List ℕ) (at : ℕ) {r q : Result CheckedInfo Refusal} → r ≡ check_info_of s at → q ≡ check_info_of s at → r ≡ q
check_info_unique s at = same

pub read_code_unique : (s : List ℕ) (at index : ℕ) {r q : Result UnwindCode Refusal} → r ≡ read_code_of s at index → q ≡ read_code_of s at index → r ≡ q
read_code_unique s at index = same

-- Each answer has as many numbers as it says, zeros where it is refused.
pub check_info_count : (a : Result CheckedInfo Refusal) → length (values count_check_info (answer_check_info a)) ≡ count_check_info
check_info_count (Ok c) = omega (arith, follows_count c.info.follows)
check_info_count (Err k) = refl

pub read_code_count : (a : Result UnwindCode Refusal) → length (values count_read_code (answer_read_code a)) ≡ count_read_code
read_code_count (Ok c) = omega (arith, operation_count c.operation)
read_code_count (Err k) = refl

-- The numbers that it stands for are fixed.
pub numbers_unique : (a : CheckedInfo) {r q : List ℕ} → r ≡ checked_numbers a → q ≡ checked_numbers a → r ≡ q
numbers_unique a = same
