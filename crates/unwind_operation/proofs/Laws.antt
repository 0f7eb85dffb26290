-- The laws of an operation in its slots: what the proofs of this crate and of its callers cite.
-- Assumes nothing.
use Rattle.std.specs.Prelude.{Result, Ok, Err}
use mathlib.Core.Path.{◌≡◌, refl, ap}
use mathlib.Core.List.{List, [], ◌∷◌}
use mathlib.Core.Bool.{Bool, true, false}
use Prim.Native.Nat.{ℕ, zero, suc, ◌+◌, ◌*◌, ◌/◌, ◌%◌, ◌≤◌, ◌<◌}
use native.Mathlib.Omega.{arith}
use lib.ListN.{length, get_or}
use lib.Dec.{eqb, leb}
use borrow.Author.Tests.{le-leb, lt-leb, leb-true}
use Rattle.answer.specs.Answer.{refuse_of, beyond_of, version}
use Rattle.answer.specs.Test.{pick, must}
use Rattle.answer.specs.declared.Reason.{Reason}
use Rattle.answer.specs.declared.Refusal.{Refusal}
use Rattle.answer.proofs.Laws.{must_on, must_off}
use Rattle.fields.specs.Number.{number_at, Bytes}
use Rattle.fields.proofs.Number.{number_one, number_joined}
use Rattle.layout.specs.Layout.{numbers_at}
use Rattle.unwind_operation.specs.Operation.{Pending, allocates, saves, saves_low, saves_xmm, no_effect, Form, one, two, three, unknown, known_version_of, form_of, scale_of, operation_of, offset_at, op_at, info_at, slot_count, in_slots, taken, in_two, in_three, by_form, next_code_of}
use Rattle.unwind_operation.specs.declared.UnwindOperation.{UnwindOperation}
use Rattle.unwind_operation.specs.declared.UnwindOperation.TheVariants.{PushNonVolatile, Alloc, SetFPRegister, SaveNonVolatile, SaveXMM, Epilog, SaveXMM128, PushMachineFrame, Noop}
use Rattle.unwind_operation.specs.declared.TakenCode.{TakenCode}

-- the high half of a byte
pub info_of_lem : (byte : ℕ) → byte < 256 → byte / 16 % 16 ≡ byte / 16
info_of_lem byte h = omega arith

-- whether the slots are there
module _ (s : List ℕ) (at n : ℕ) (on : Result TakenCode Refusal) where
  slots_on : {x : Result TakenCode Refusal} → at + n ≤ slot_count s → x ≡ on → x ≡ in_slots s at n on
  unfolding in_slots
  slots_on h e = rw (le-leb (at + n) (slot_count s) h, e)

  slots_off : {q : Refusal} → slot_count s < at + n → q ≡ beyond_of → Err q ≡ in_slots s at n on
  unfolding in_slots
  slots_off h e = rw (lt-leb (at + n) (slot_count s) h, e)

-- an operation of two or three slots, a law for each outcome
module _ (s : List ℕ) (at offset : ℕ) (k : Pending) (frame : ℕ) where
  pub two_taken : {o : UnwindOperation} {m n : ℕ} → 2 * at + 4 ≤ length s → n ≡ number_at false 2 s (2 * at + 2) → m ≡ scale_of k * n
      → o ≡ operation_of frame k m → taken offset o (at + 2) ≡ in_two s at offset k frame
  unfolding in_two
  two_taken h d f e = slots_on s at 2 _ (omega arith) (rw (e, f, d))

  pub two_passed : {q : Refusal} → length s < 2 * at + 4 → q ≡ beyond_of → Err q ≡ in_two s at offset k frame
  unfolding in_two
  two_passed h e = slots_off s at 2 _ (omega arith) e

  pub three_taken : {o : UnwindOperation} {n : ℕ} → 2 * at + 6 ≤ length s → n ≡ number_at false 4 s (2 * at + 2)
      → o ≡ operation_of frame k n → taken offset o (at + 3) ≡ in_three s at offset k frame
  unfolding in_three
  three_taken h d e = slots_on s at 3 _ (omega arith) (rw (e, d))

  pub three_passed : {q : Refusal} → length s < 2 * at + 6 → q ≡ beyond_of → Err q ≡ in_three s at offset k frame
  unfolding in_three
  three_passed h e = slots_off s at 3 _ (omega arith) e

-- the operation at a place, a law for each outcome of the checks before its form is known
module _ (s : List ℕ) (at v frame : ℕ) where
  pub code_version : {q : Refusal} → known_version_of v ≡ false → q ≡ refuse_of version → Err q ≡ next_code_of s at v frame
  unfolding next_code_of
  code_version e g = must_off Err _ _ _ e g

  module _ (e : known_version_of v ≡ true) where
    pub code_passed : {q : Refusal} → slot_count s ≤ at → q ≡ beyond_of → Err q ≡ next_code_of s at v frame
    unfolding next_code_of
    code_passed h g = must_on Err _ _ _ e (slots_off s at 1 _ (omega arith) g)

    module _ (h : at < slot_count s) {f : Form}
        (g : f ≡ form_of v (get_or s (2 * at) 0) (get_or s (2 * at + 1) 0 % 16) (get_or s (2 * at + 1) 0 / 16 % 16)) where
      first : number_at false 1 s (2 * at) ≡ get_or s (2 * at) 0
      first = number_one false s (2 * at) (omega arith)

      second : number_at false 1 s (2 * at + 1) ≡ get_or s (2 * at + 1) 0
      second = number_one false s (2 * at + 1) (omega arith)

      pub code_formed : {x : Result TakenCode Refusal} → x ≡ by_form f s at (get_or s (2 * at) 0) frame → x ≡ next_code_of s at v frame
      unfolding next_code_of numbers_at
      code_formed {x} d = must_on Err _ _ _ e (slots_on s at 1 _ (omega arith) (rw (first, second) (rw g at d)))

pub never : {t : TakenCode} {k : Refusal} → Ok t ≡ Err k → ⊥
never e = let z : ◌≡◌ {A = ℕ} 0 1 = cc in omega arith

pub same_taken : {t u : TakenCode} → ◌≡◌ {A = Result TakenCode Refusal} (Ok t) (Ok u) → t ≡ u
same_taken e = cc

-- a check that was passed on the way to an operation
told : (test : Bool) (why : Reason) (on : Result TakenCode Refusal) {t : TakenCode} → Ok t ≡ must Err test why on
    → (test ≡ true) × (Ok t ≡ on)
unfolding must
told true why on e = (refl, e)
told false why on e = absurd (never e)

told_by : (test : Bool) (on : Result TakenCode Refusal) (q : Refusal) {t : TakenCode} → Ok t ≡ pick test on (Err q)
    → (test ≡ true) × (Ok t ≡ on)
told_by true on q e = (refl, e)
told_by false on q e = absurd (never e)

-- slots that are there
told_slots : (s : List ℕ) (at n : ℕ) (on : Result TakenCode Refusal) {t : TakenCode} → Ok t ≡ in_slots s at n on
    → (at + n ≤ slot_count s) × (Ok t ≡ on)
unfolding in_slots
told_slots s at n on e =
    let p = told_by (leb (at + n) (slot_count s)) on beyond_of e in
    (leb-true (at + n) (slot_count s) p.0, p.1)

-- what an operation that was decoded says of its form
pub record Formed (s : List ℕ) (at v frame : ℕ) (t : TakenCode) : Type 0 where
  pub known : known_version_of v ≡ true
  pub inside : at < slot_count s
  pub formed : Ok t ≡ by_form (form_of v (offset_at s at) (op_at s at) (info_at s at)) s at (offset_at s at) frame

pub code_told : (s : List ℕ) (at v frame : ℕ) {t : TakenCode} → Ok t ≡ next_code_of s at v frame → Formed s at v frame t
unfolding next_code_of
code_told s at v frame e =
    let p = told _ _ _ e in
    let q = told_slots s at 1 _ p.1 in
    record { known = p.0; inside = omega (arith, q.0); formed = q.1 }

-- .. and of the number in its second slot
pub two_told : (s : List ℕ) (at offset : ℕ) (k : Pending) (frame : ℕ) {t : TakenCode} → Ok t ≡ in_two s at offset k frame
    → (at + 2 ≤ slot_count s) × (Ok t ≡ taken offset (operation_of frame k (scale_of k * number_at false 2 s (2 * at + 2))) (at + 2))
unfolding in_two
two_told s at offset k frame e = told_slots s at 2 _ e

-- what an operation that was decoded says of its slots
pub record Within (s : List ℕ) (at next : ℕ) : Type 0 where
  pub first : at < next
  pub most : next ≤ at + 3
  pub last : next ≤ slot_count s

within_of : (s : List ℕ) (at n : ℕ) {t u : TakenCode} → 0 < n → n ≤ 3 → at + n ≤ slot_count s → u.next ≡ at + n
    → ◌≡◌ {A = Result TakenCode Refusal} (Ok t) (Ok u)
    → Within s at t.next
within_of s at n a b h d e =
    let f = ap (λ (v : TakenCode). v.next) (same_taken e) in
    record { first = omega arith; most = omega arith; last = omega arith }

module _ (s : List ℕ) (at offset frame : ℕ) {t : TakenCode} where
  within_form : (f : Form) → at < slot_count s → Ok t ≡ by_form f s at offset frame → Within s at t.next
  unfolding in_three
  within_form (one o) h e = within_of s at 1 (omega arith) (omega arith) (omega arith) refl e
  within_form (two k) h e = let p = two_told s at offset k frame e in within_of s at 2 (omega arith) (omega arith) p.0 refl p.1
  within_form (three k) h e = let p = told_slots s at 3 _ e in within_of s at 3 (omega arith) (omega arith) p.0 refl p.1
  within_form unknown h e = absurd (never e)

pub code_within : (s : List ℕ) (at v frame : ℕ) {t : TakenCode} → Ok t ≡ next_code_of s at v frame → Within s at t.next
code_within s at v frame e =
    let p = code_told s at v frame e in
    within_form s at (offset_at s at) frame (form_of v (offset_at s at) (op_at s at) (info_at s at)) p.inside p.formed

byte_below : (s : List ℕ) (i : ℕ) → Bytes s → get_or s i 0 < 256
byte_below [] i b = omega arith
byte_below (x ∷ s) zero b = b.0
byte_below (x ∷ s) (suc i) b = byte_below s i b.1

-- a number of 16 bits
pub half_below : (s : List ℕ) (i : ℕ) → Bytes s → i + 2 ≤ length s → number_at false 2 s i < 65536
half_below s i b h =
    let x = number_one false s i (omega arith) in
    let y = number_one false s (i + 1) (omega arith) in
    omega (arith, number_joined false 1 s i h, x, y, byte_below s i b, byte_below s (i + 1) b)

-- the registers of an operation have their numbers: below 16 for a general one, 17 to 32 for an XMM register
abbrev pub InRange : UnwindOperation → Type 0
InRange (PushNonVolatile r) = r.0 < 16
InRange (Alloc n) = Unit
InRange SetFPRegister = Unit
InRange (SaveNonVolatile r o) = r.0 < 16
InRange (SaveXMM r o) = (17 ≤ r.0) × (r.0 ≤ 32)
InRange (Epilog low high) = Unit
InRange (SaveXMM128 r o) = (17 ≤ r.0) × (r.0 ≤ 32)
InRange (PushMachineFrame e) = Unit
InRange Noop = Unit

abbrev PendingInRange : Pending → Type 0
PendingInRange allocates = Unit
PendingInRange (saves r) = r.0 < 16
PendingInRange (saves_low r) = (17 ≤ r.0) × (r.0 ≤ 32)
PendingInRange (saves_xmm r) = (17 ≤ r.0) × (r.0 ≤ 32)
PendingInRange no_effect = Unit

abbrev FormInRange : Form → Type 0
FormInRange (one o) = InRange o
FormInRange (two k) = PendingInRange k
FormInRange (three k) = PendingInRange k
FormInRange unknown = Unit

range_pick : (b : Bool) (f g : Form) → FormInRange f → FormInRange g → FormInRange (pick b f g)
range_pick true f g h k = h
range_pick false f g h k = k

form_range : (v offset op info : ℕ) → info < 16 → FormInRange (form_of v offset op info)
unfolding form_of
form_range v offset op info h =
    let x : (17 ≤ 17 + info) × (17 + info ≤ 32) = (omega arith, omega arith) in
    range_pick (eqb op 0) _ _ h
    (range_pick (eqb op 1) _ _ (range_pick (eqb info 0) _ _ tt (range_pick (eqb info 1) _ _ tt tt))
    (range_pick (eqb op 2) _ _ tt
    (range_pick (eqb op 3) _ _ tt
    (range_pick (eqb op 4) _ _ h
    (range_pick (eqb op 5) _ _ h
    (range_pick (eqb op 6) _ _ (range_pick (eqb v 1) _ _ x tt)
    (range_pick (eqb op 7) _ _ (range_pick (eqb v 1) _ _ x tt)
    (range_pick (eqb op 8) _ _ x
    (range_pick (eqb op 9) _ _ x
    (range_pick (eqb op 10) _ _ (range_pick (eqb info 0) _ _ tt (range_pick (eqb info 1) _ _ tt tt)) tt))))))))))

pending_range : (frame n : ℕ) (k : Pending) → PendingInRange k → InRange (operation_of frame k n)
pending_range frame n allocates h = tt
pending_range frame n (saves r) h = h
pending_range frame n (saves_low r) h = h
pending_range frame n (saves_xmm r) h = h
pending_range frame n no_effect h = tt

taken_range : {t : TakenCode} (offset : ℕ) (o : UnwindOperation) (next : ℕ) → Ok t ≡ taken offset o next → InRange o
    → InRange t.code.operation
taken_range offset o next e h = rw (same_taken e) h

module _ (s : List ℕ) (at offset frame : ℕ) {t : TakenCode} where
  range_form : (f : Form) → FormInRange f → Ok t ≡ by_form f s at offset frame → InRange t.code.operation
  unfolding in_three
  range_form (one o) h e = taken_range offset o (at + 1) e h
  range_form (two k) h e = taken_range offset _ (at + 2) (two_told s at offset k frame e).1 (pending_range frame _ k h)
  range_form (three k) h e = taken_range offset _ (at + 3) (told_slots s at 3 _ e).1 (pending_range frame _ k h)
  range_form unknown h e = absurd (never e)

pub code_range : (s : List ℕ) (at v frame : ℕ) {t : TakenCode} → Ok t ≡ next_code_of s at v frame → InRange t.code.operation
code_range s at v frame e =
    let p = code_told s at v frame e in
    let r = form_range v (offset_at s at) (op_at s at) (info_at s at) (omega arith) in
    range_form s at (offset_at s at) frame (form_of v (offset_at s at) (op_at s at) (info_at s at)) r p.formed
