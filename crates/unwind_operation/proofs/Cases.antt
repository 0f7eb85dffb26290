-- `next_code_of` on small lists of slots, by computation: the examples of 11.16, and each row of the table of 11.2.
-- Assumes nothing.
use Rattle.std.specs.Prelude.{Err}
use mathlib.Core.Path.{◌≡◌, refl}
use mathlib.Core.List.{[], ◌∷◌}
use mathlib.Core.Bool.{true, false}
use Rattle.answer.specs.Answer.{refuse_of, beyond_of, short, version, operation}
use Rattle.answer.specs.Test.{must}
use Rattle.fields.specs.Number.{number_at}
use Rattle.layout.specs.Layout.{numbers_at}
use Rattle.unwind_operation.specs.Operation.{general, xmm, form_of, in_slots, taken, in_two, in_three, next_code_of}
use Rattle.unwind_operation.specs.declared.StackFrameOffset.TheVariants.{RSP, FP}
use Rattle.unwind_operation.specs.declared.UnwindOperation.TheVariants.{PushNonVolatile, Alloc, SetFPRegister, SaveNonVolatile, SaveXMM, Epilog, SaveXMM128, PushMachineFrame, Noop}

-- `01 04 01 00 04 42 00 00`
alloc_40 : next_code_of (4 ∷ 66 ∷ []) 0 1 0 ≡ taken 4 (Alloc 40) 1
unfolding next_code_of form_of in_slots in_two in_three must numbers_at number_at beyond_of
alloc_40 = refl

-- `01 04 02 00 04 01 06 00`
alloc_48 : next_code_of (4 ∷ 1 ∷ 6 ∷ 0 ∷ []) 0 1 0 ≡ taken 4 (Alloc 48) 2
unfolding next_code_of form_of in_slots in_two in_three must numbers_at number_at beyond_of
alloc_48 = refl

-- with a count of 1
alloc_past_the_count : next_code_of (4 ∷ 1 ∷ []) 0 1 0 ≡ Err (refuse_of short)
unfolding next_code_of form_of in_slots in_two in_three must numbers_at number_at beyond_of
alloc_past_the_count = refl

-- with `21` in byte 5
alloc_info_2 : next_code_of (4 ∷ 33 ∷ 6 ∷ 0 ∷ []) 0 1 0 ≡ Err (refuse_of operation)
unfolding next_code_of form_of in_slots in_two in_three must numbers_at number_at beyond_of
alloc_info_2 = refl

alloc_32_bits : next_code_of (4 ∷ 17 ∷ 1 ∷ 2 ∷ 3 ∷ 4 ∷ []) 0 2 0 ≡ taken 4 (Alloc 67305985) 3
unfolding next_code_of form_of in_slots in_two in_three must numbers_at number_at beyond_of
alloc_32_bits = refl

-- the second slot
push : next_code_of (0 ∷ 0 ∷ 9 ∷ 48 ∷ []) 1 1 0 ≡ taken 9 (PushNonVolatile (general 3)) 2
unfolding next_code_of form_of in_slots in_two in_three must numbers_at number_at beyond_of
push = refl

set_frame : next_code_of (9 ∷ 243 ∷ []) 0 1 5 ≡ taken 9 SetFPRegister 1
unfolding next_code_of form_of in_slots in_two in_three must numbers_at number_at beyond_of
set_frame = refl

save : next_code_of (9 ∷ 116 ∷ 2 ∷ 1 ∷ []) 0 1 0 ≡ taken 9 (SaveNonVolatile (general 7) (RSP 2064)) 2
unfolding next_code_of form_of in_slots in_two in_three must numbers_at number_at beyond_of
save = refl

save_by_the_frame : next_code_of (9 ∷ 116 ∷ 2 ∷ 1 ∷ []) 0 1 5 ≡ taken 9 (SaveNonVolatile (general 7) (FP 2064)) 2
unfolding next_code_of form_of in_slots in_two in_three must numbers_at number_at beyond_of
save_by_the_frame = refl

save_far : next_code_of (9 ∷ 117 ∷ 1 ∷ 2 ∷ 3 ∷ 4 ∷ []) 0 1 0 ≡ taken 9 (SaveNonVolatile (general 7) (RSP 67305985)) 3
unfolding next_code_of form_of in_slots in_two in_three must numbers_at number_at beyond_of
save_far = refl

-- version 1, op 6
low_half : next_code_of (9 ∷ 102 ∷ 2 ∷ 1 ∷ []) 0 1 0 ≡ taken 9 (SaveXMM (xmm 6) (RSP 4128)) 2
unfolding next_code_of form_of in_slots in_two in_three must numbers_at number_at beyond_of
low_half = refl

-- version 2, op 6: one slot
epilog : next_code_of (9 ∷ 22 ∷ []) 0 2 0 ≡ taken 9 (Epilog 9 1) 1
unfolding next_code_of form_of in_slots in_two in_three must numbers_at number_at beyond_of
epilog = refl

-- version 1, op 7
low_half_far : next_code_of (9 ∷ 103 ∷ 1 ∷ 2 ∷ 3 ∷ 4 ∷ []) 0 1 0 ≡ taken 9 (SaveXMM (xmm 6) (RSP 67305985)) 3
unfolding next_code_of form_of in_slots in_two in_three must numbers_at number_at beyond_of
low_half_far = refl

-- version 2, op 7: three slots, no effect
spare : next_code_of (9 ∷ 103 ∷ 1 ∷ 2 ∷ 3 ∷ 4 ∷ []) 0 2 0 ≡ taken 9 Noop 3
unfolding next_code_of form_of in_slots in_two in_three must numbers_at number_at beyond_of
spare = refl

spare_past_the_count : next_code_of (9 ∷ 103 ∷ 1 ∷ 2 ∷ []) 0 2 0 ≡ Err (refuse_of short)
unfolding next_code_of form_of in_slots in_two in_three must numbers_at number_at beyond_of
spare_past_the_count = refl

save_xmm_lem : next_code_of (9 ∷ 104 ∷ 2 ∷ 1 ∷ []) 0 1 0 ≡ taken 9 (SaveXMM128 (xmm 6) (RSP 4128)) 2
unfolding next_code_of form_of in_slots in_two in_three must numbers_at number_at beyond_of
save_xmm_lem = refl

save_xmm_far : next_code_of (9 ∷ 105 ∷ 1 ∷ 2 ∷ 3 ∷ 4 ∷ []) 0 1 5 ≡ taken 9 (SaveXMM128 (xmm 6) (FP 67305985)) 3
unfolding next_code_of form_of in_slots in_two in_three must numbers_at number_at beyond_of
save_xmm_far = refl

machine_frame_lem : next_code_of (0 ∷ 10 ∷ []) 0 1 0 ≡ taken 0 (PushMachineFrame false) 1
unfolding next_code_of form_of in_slots in_two in_three must numbers_at number_at beyond_of
machine_frame_lem = refl

machine_frame_with_code : next_code_of (0 ∷ 26 ∷ []) 0 1 0 ≡ taken 0 (PushMachineFrame true) 1
unfolding next_code_of form_of in_slots in_two in_three must numbers_at number_at beyond_of
machine_frame_with_code = refl

machine_frame_info_2 : next_code_of (0 ∷ 42 ∷ []) 0 1 0 ≡ Err (refuse_of operation)
unfolding next_code_of form_of in_slots in_two in_three must numbers_at number_at beyond_of
machine_frame_info_2 = refl

-- 11.3
op_11 : next_code_of (0 ∷ 11 ∷ []) 0 1 0 ≡ Err (refuse_of operation)
unfolding next_code_of form_of in_slots in_two in_three must numbers_at number_at beyond_of
op_11 = refl

op_15 : next_code_of (0 ∷ 15 ∷ []) 0 2 0 ≡ Err (refuse_of operation)
unfolding next_code_of form_of in_slots in_two in_three must numbers_at number_at beyond_of
op_15 = refl

no_slot : next_code_of ([]) 0 1 0 ≡ Err (refuse_of short)
unfolding next_code_of form_of in_slots in_two in_three must numbers_at number_at beyond_of
no_slot = refl

-- a byte is no slot
half_a_slot : next_code_of (4 ∷ []) 0 1 0 ≡ Err (refuse_of short)
unfolding next_code_of form_of in_slots in_two in_three must numbers_at number_at beyond_of
half_a_slot = refl

far_past_the_slots : next_code_of (4 ∷ 66 ∷ []) 18446744073709551615 1 0 ≡ Err (refuse_of short)
unfolding next_code_of form_of in_slots in_two in_three must numbers_at number_at beyond_of
far_past_the_slots = refl

-- a version that no info has
version_3 : next_code_of (4 ∷ 66 ∷ []) 0 3 0 ≡ Err (refuse_of version)
unfolding next_code_of form_of in_slots in_two in_three must numbers_at number_at beyond_of
version_3 = refl
