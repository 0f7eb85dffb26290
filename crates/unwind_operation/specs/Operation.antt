-- The unwind operations in their slots (Microsoft, "x64 exception handling", struct UNWIND_CODE). The slots of an unwind info are lent
-- here by themselves, two bytes each, so that their number is the count of the info.
-- Assumes nothing.
use Rattle.unwind_operation.specs.declared.TakenCode.{TakenCode}
use Rattle.std.specs.Prelude.{Result, Ok, Err, ℕ, ◌+◌, ◌*◌, ◌/◌, ◌%◌, List, [], ◌∷◌, Bool, true, false, length, leb, eqb}
use Rattle.answer.specs.declared.Refusal.{Refusal}
use Rattle.answer.specs.Answer.{refuse_of, beyond_of, version, operation}
use Rattle.answer.specs.Test.{pick, must}
use Rattle.fields.specs.Number.{number_at}
use Rattle.layout.specs.Layout.{Field, field, widths, the, numbers_at}
use Rattle.unwind_operation.specs.declared.Register.{Register}
use Rattle.unwind_operation.specs.declared.StackFrameOffset.{StackFrameOffset}
use Rattle.unwind_operation.specs.declared.StackFrameOffset.TheVariants.{RSP, FP}
use Rattle.unwind_operation.specs.declared.UnwindOperation.{UnwindOperation}
use Rattle.unwind_operation.specs.declared.UnwindOperation.TheVariants.{PushNonVolatile, Alloc, SetFPRegister, SaveNonVolatile, SaveXMM, Epilog, SaveXMM128, PushMachineFrame, Noop}

-- 10.1: there are versions 1 and 2
abbrev pub known_version_of : ℕ → Bool
known_version_of v = pick (eqb v 1) true (eqb v 2)

-- 11.6: general registers have the numbers 0 to 15 ..
abbrev pub general : ℕ → Register
general n = record { 0 = n }

-- 11.6: .. and XMM n is 17 + n
abbrev pub xmm : ℕ → Register
xmm n = record { 0 = 17 + n }

-- an operation that waits for the number in the slots after its first
pub data Pending : Type 0 where
  allocates : Pending
  saves : Register → Pending
  saves_low : Register → Pending
  saves_xmm : Register → Pending
  no_effect : Pending

-- the slots that an operation takes: its own, one more with a number of 16 bits, two more with one of 32 bits; or there is none such
pub data Form : Type 0 where
  one : UnwindOperation → Form
  two : Pending → Form
  three : Pending → Form
  unknown : Form

-- 11.2, 11.3, 11.5: the table, by operation number, operation info and version `v`. `offset` is the code offset, which an epilog reports.
unfoldable pub form_of : ℕ → ℕ → ℕ → ℕ → Form
form_of v offset op info =
    pick (eqb op 0) (one (PushNonVolatile (general info)))
    (pick (eqb op 1) (pick (eqb info 0) (two allocates) (pick (eqb info 1) (three allocates) unknown))
    (pick (eqb op 2) (one (Alloc (info * 8 + 8)))
    (pick (eqb op 3) (one SetFPRegister)
    (pick (eqb op 4) (two (saves (general info)))
    (pick (eqb op 5) (three (saves (general info)))
    (pick (eqb op 6) (pick (eqb v 1) (two (saves_low (xmm info))) (one (Epilog offset info)))
    (pick (eqb op 7) (pick (eqb v 1) (three (saves_low (xmm info))) (three no_effect))
    (pick (eqb op 8) (two (saves_xmm (xmm info)))
    (pick (eqb op 9) (three (saves_xmm (xmm info)))
    (pick (eqb op 10) (pick (eqb info 0) (one (PushMachineFrame false)) (pick (eqb info 1) (one (PushMachineFrame true)) unknown))
    unknown))))))))))

-- 11.2: what a number of 16 bits is multiplied with; a number of 32 bits is taken as it is
abbrev pub scale_of : Pending → ℕ
scale_of allocates = 8
scale_of (saves r) = 8
scale_of (saves_low r) = 16
scale_of (saves_xmm r) = 16
scale_of no_effect = 1

-- 11.8: the offset of a save counts from RSP where the frame register of the info is 0, else from the frame register
abbrev pub saved_at : ℕ → ℕ → StackFrameOffset
saved_at frame n = pick (eqb frame 0) (RSP n) (FP n)

-- 11.2, 11.8: the operation, once its number is known
abbrev pub operation_of : ℕ → Pending → ℕ → UnwindOperation
operation_of frame allocates n = Alloc n
operation_of frame (saves r) n = SaveNonVolatile r (saved_at frame n)
operation_of frame (saves_low r) n = SaveXMM r (saved_at frame n)
operation_of frame (saves_xmm r) n = SaveXMM128 r (saved_at frame n)
operation_of frame no_effect n = Noop

-- 4.18: offset, width, name
abbrev pub fields : List Field
fields = field 0 1 "Offset in prolog" ∷ field 1 1 "Unwind operation code and operation info" ∷ []

abbrev pub unwind_code : List ℕ
unwind_code = widths fields

-- the numbers of the slot at a place
abbrev pub slot_at : List ℕ → ℕ → List ℕ
slot_at s at = numbers_at false unwind_code s (2 * at)

-- 11.1: the code offset ..
abbrev pub offset_at : List ℕ → ℕ → ℕ
offset_at s at = the fields "Offset in prolog" (slot_at s at)

-- 11.1: .. the operation number in the low half of the second byte ..
abbrev pub op_at : List ℕ → ℕ → ℕ
op_at s at = the fields "Unwind operation code and operation info" (slot_at s at) % 16

-- 11.1: .. and the operation info in its high half
abbrev pub info_at : List ℕ → ℕ → ℕ
info_at s at = the fields "Unwind operation code and operation info" (slot_at s at) / 16 % 16

-- 11.11: how many slots there are; an odd last byte is none
abbrev pub slot_count : List ℕ → ℕ
slot_count s = length s / 2

-- 11.10: `n` slots from `at` on are there, or the refusal is 1, and no longer file would have them
unfoldable pub in_slots : List ℕ → ℕ → ℕ → Result TakenCode Refusal → Result TakenCode Refusal
in_slots s at n on = pick (leb (at + n) (slot_count s)) on (Err beyond_of)

-- the operation, and the place after its slots
abbrev pub taken : ℕ → UnwindOperation → ℕ → Result TakenCode Refusal
taken offset o next = Ok (record { code = record { code_offset = offset; operation = o }; next = next })

-- 11.4: in two slots, the second has the number
unfoldable pub in_two : List ℕ → ℕ → ℕ → Pending → ℕ → Result TakenCode Refusal
in_two s at offset k frame = in_slots s at 2 (taken offset (operation_of frame k (scale_of k * number_at false 2 s (2 * at + 2))) (at + 2))

-- 11.4: in three slots, the second and the third have it
unfoldable pub in_three : List ℕ → ℕ → ℕ → Pending → ℕ → Result TakenCode Refusal
in_three s at offset k frame = in_slots s at 3 (taken offset (operation_of frame k (number_at false 4 s (2 * at + 2))) (at + 3))

-- 11.3: an operation that there is not is refused with 7
abbrev pub by_form : Form → List ℕ → ℕ → ℕ → ℕ → Result TakenCode Refusal
by_form (one o) s at offset frame = taken offset o (at + 1)
by_form (two k) s at offset frame = in_two s at offset k frame
by_form (three k) s at offset frame = in_three s at offset k frame
by_form unknown s at offset frame = Err (refuse_of operation)

-- 11.11: the operation at a place among the slots, by the version and the frame register of its info
unfoldable pub next_code_of : List ℕ → ℕ → ℕ → ℕ → Result TakenCode Refusal
next_code_of s at v frame =
    must Err (known_version_of v) version
    (in_slots s at 1 (by_form (form_of v (offset_at s at) (op_at s at) (info_at s at)) s at (offset_at s at) frame))
