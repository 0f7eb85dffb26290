-- What is proved of unwind operations and of the names of registers, for every input.
-- Assumes nothing.
use Rattle.unwind_operation.specs.declared.UnwindCode.{UnwindCode}
use Rattle.std.specs.Prelude.{Result, Ok, Err, ℕ, List, ◌≡◌}
use Rattle.answer.specs.declared.Refusal.{Refusal}
use mathlib.Core.Path.{◌≡◌, refl, sym, ap, ◌∙◌}
use mathlib.Core.List.{List, [], ◌∷◌}
use mathlib.Core.Bool.{Bool, true, false}
use Prim.Native.Nat.{ℕ, ◌+◌, ◌*◌, ◌≤◌, ◌<◌}
use native.Mathlib.Omega.{arith}
use lib.ListN.{length, get_or}
use lib.Dec.{T}
use Rattle.answer.specs.Answer.{beyond_of, values}
use Rattle.answer.specs.Test.{must}
use Rattle.answer.proofs.Unique.{same}
use Rattle.fields.specs.Number.{number_at, Bytes}
use Rattle.layout.specs.Layout.{placed, numbers_at}
use Rattle.unwind_operation.specs.Operation.{fields, known_version_of, allocates, two, form_of, offset_at, op_at, info_at, slot_count, in_slots, taken, in_two, next_code_of}
use Rattle.unwind_operation.specs.Answers.{operation_numbers, answer_next_code, count_next_code, code_numbers}
use Rattle.unwind_operation.specs.declared.StackFrameOffset.TheVariants.{RSP, FP}
use Rattle.unwind_operation.specs.declared.UnwindOperation.{UnwindOperation}
use Rattle.unwind_operation.specs.declared.UnwindOperation.TheVariants.{PushNonVolatile, Alloc, SetFPRegister, SaveNonVolatile, SaveXMM, Epilog, SaveXMM128, PushMachineFrame, Noop}
use Rattle.unwind_operation.specs.declared.TakenCode.{TakenCode}
use Rattle.unwind_operation.proofs.Laws.{two_taken, code_passed, code_formed, code_within, code_told, two_told, same_taken, half_below, InRange, code_range}
use Rattle.unwind_operation.specs.Names.{name_of}

-- Each field of the slot is where the one before it ends.
pub fields_placed : T (placed 0 fields)
fields_placed = tt

-- An operation takes one to three slots, and none after the last.
pub code_inside : (s : List ℕ) (at v frame : ℕ) (t : TakenCode) → Ok t ≡ next_code_of s at v frame
    → (at < t.next) × (t.next ≤ at + 3) × (t.next ≤ slot_count s)
code_inside s at v frame t e = let w = code_within s at v frame e in (w.first, w.most, w.last)

-- Where the slots have ended there is no operation, and no longer file would have one.
pub code_past : (s : List ℕ) (at v frame : ℕ) → known_version_of v ≡ true → slot_count s ≤ at → Err beyond_of ≡ next_code_of s at v frame
code_past s at v frame e h = code_passed s at v frame e h refl

-- Every operation names a general register below 16, or an XMM register from 17 to 32, whatever the numbers in the slots.
pub code_registers : (s : List ℕ) (at v frame : ℕ) (t : TakenCode) → Ok t ≡ next_code_of s at v frame → InRange t.code.operation
code_registers s at v frame t e = code_range s at v frame e

-- Operation 1 with info 0 allocates the number in the next slot, times 8 ..
pub alloc_large : (s : List ℕ) (at v frame : ℕ) → known_version_of v ≡ true → at + 2 ≤ slot_count s → get_or s (2 * at + 1) 0 ≡ 1
    → taken (get_or s (2 * at) 0) (Alloc (8 * number_at false 2 s (2 * at + 2))) (at + 2) ≡ next_code_of s at v frame
unfolding form_of
alloc_large s at v frame e h f =
    code_formed s at v frame e (omega arith) {f = two allocates} (rw f)
    (two_taken s at (get_or s (2 * at) 0) allocates frame (omega arith) refl refl refl)

same_amount : {m n : ℕ} → Alloc m ≡ Alloc n → m ≡ n
same_amount e = cc

-- .. which is at most 524,280, whatever the slots ..
pub alloc_most : (s : List ℕ) (at v frame n : ℕ) (t : TakenCode) → Bytes s → op_at s at ≡ 1 → info_at s at ≡ 0
    → Ok t ≡ next_code_of s at v frame → t.code.operation ≡ Alloc n → n ≤ 524280
unfolding form_of
alloc_most s at v frame n t b o i e a =
    let p = code_told s at v frame e in
    let f : Ok t ≡ in_two s at (offset_at s at) allocates frame = rw (o, i) at p.formed in
    let q = two_told s at (offset_at s at) allocates frame f in
    let m = same_amount (sym a ∙ ap (λ (u : TakenCode). u.code.operation) (same_taken q.1)) in
    omega (arith, half_below s (2 * at + 2) b (omega (arith, q.0)))

-- .. and that is reached.
pub alloc_reached : next_code_of (4 ∷ 1 ∷ 255 ∷ 255 ∷ []) 0 1 0 ≡ taken 4 (Alloc 524280) 2
unfolding next_code_of form_of in_slots in_two must numbers_at number_at
alloc_reached = refl

-- Two answers that meet a promise of this crate are equal.
pub next_code_unique : (s : List ℕ) (at v frame : ℕ) {r q : Result TakenCode Refusal} → r ≡ next_code_of s at v frame → q ≡ next_code_of s at v frame → r ≡ q
next_code_unique s at v frame = same

pub known_version_unique : (v : ℕ) {r q : Bool} → r ≡ known_version_of v → q ≡ known_version_of v → r ≡ q
known_version_unique v = same

pub name_unique : (n : ℕ) {r q : List ℕ} → r ≡ name_of n → q ≡ name_of n → r ≡ q
name_unique n = same

-- An operation is always four numbers ..
pub operation_count : (o : UnwindOperation) → length (operation_numbers o) ≡ 4
operation_count (PushNonVolatile r) = refl
operation_count (Alloc n) = refl
operation_count SetFPRegister = refl
operation_count (SaveNonVolatile r (RSP n)) = refl
operation_count (SaveNonVolatile r (FP n)) = refl
operation_count (SaveXMM r (RSP n)) = refl
operation_count (SaveXMM r (FP n)) = refl
operation_count (Epilog low high) = refl
operation_count (SaveXMM128 r (RSP n)) = refl
operation_count (SaveXMM128 r (FP n)) = refl
operation_count (PushMachineFrame e) = refl
operation_count Noop = refl

-- .. and the answer has as many numbers as it says, zeros where it is refused.
pub next_code_count : (a : Result TakenCode Refusal) → length (values count_next_code (answer_next_code a)) ≡ count_next_code
next_code_count (Ok t) = omega (arith, operation_count t.code.operation)
next_code_count (Err k) = refl

-- The numbers that it stands for are fixed.
pub numbers_unique : (a : UnwindCode) {r q : List ℕ} → r ≡ code_numbers a → q ≡ code_numbers a → r ≡ q
numbers_unique a = same
