-- `read_code_of` on small inputs, by computation: the examples of 11.16 among them.
-- Assumes nothing.
use Rattle.unwind_operation.specs.declared.UnwindCode.{UnwindCode}
use Rattle.std.specs.Prelude.{Result, Ok, Err}
use Rattle.answer.specs.declared.Refusal.{Refusal}
use mathlib.Core.Path.{◌≡◌, refl}
use mathlib.Core.List.{[], ◌∷◌}
use Prim.Native.Nat.{ℕ}
use Rattle.answer.specs.Answer.{refuse_of, short, operation, not_found, cut_of, beyond_of}
use Rattle.answer.specs.Test.{must}
use Rattle.fields.specs.Number.{number_at}
use Rattle.layout.specs.Layout.{read_by, numbers_at}
use Rattle.runtime_function.specs.RuntimeFunction.{read_of as record_at}
use Rattle.unwind_operation.specs.Operation.{general, form_of, in_slots, in_two, in_three, next_code_of}
use Rattle.unwind_operation.specs.declared.UnwindOperation.{UnwindOperation}
use Rattle.unwind_operation.specs.declared.UnwindOperation.TheVariants.{PushNonVolatile, Alloc}
use Rattle.unwind_info.specs.Unwind.{with_slots, rest_at, read_header_of, chained_at, read_follows_of}
use Rattle.unwind_codes.specs.Codes.{codes_from, codes_at, codes_of, read_code_of}

-- a code by its offset and operation
abbrev is : ℕ → UnwindOperation → Result UnwindCode Refusal
is offset o = Ok (record { code_offset = offset; operation = o })

-- `01 04 01 00 04 42 00 00`
alloc_40 : read_code_of (1 ∷ 4 ∷ 1 ∷ 0 ∷ 4 ∷ 66 ∷ 0 ∷ 0 ∷ []) 0 0 ≡ is 4 (Alloc 40)
unfolding read_code_of must read_header_of rest_at read_by number_at numbers_at with_slots read_follows_of chained_at record_at cut_of
    codes_of codes_at codes_from next_code_of form_of in_slots in_two in_three beyond_of
alloc_40 = refl

-- and no other
alloc_40_alone : read_code_of (1 ∷ 4 ∷ 1 ∷ 0 ∷ 4 ∷ 66 ∷ 0 ∷ 0 ∷ []) 0 1 ≡ Err (refuse_of not_found)
unfolding read_code_of must read_header_of rest_at read_by number_at numbers_at with_slots read_follows_of chained_at record_at cut_of
    codes_of codes_at codes_from next_code_of form_of in_slots in_two in_three beyond_of
alloc_40_alone = refl

-- `01 04 02 00 04 01 06 00`
alloc_48 : read_code_of (1 ∷ 4 ∷ 2 ∷ 0 ∷ 4 ∷ 1 ∷ 6 ∷ 0 ∷ []) 0 0 ≡ is 4 (Alloc 48)
unfolding read_code_of must read_header_of rest_at read_by number_at numbers_at with_slots read_follows_of chained_at record_at cut_of
    codes_of codes_at codes_from next_code_of form_of in_slots in_two in_three beyond_of
alloc_48 = refl

alloc_48_alone : read_code_of (1 ∷ 4 ∷ 2 ∷ 0 ∷ 4 ∷ 1 ∷ 6 ∷ 0 ∷ []) 0 1 ≡ Err (refuse_of not_found)
unfolding read_code_of must read_header_of rest_at read_by number_at numbers_at with_slots read_follows_of chained_at record_at cut_of
    codes_of codes_at codes_from next_code_of form_of in_slots in_two in_three beyond_of
alloc_48_alone = refl

-- with a count of 1
count_1 : read_code_of (1 ∷ 4 ∷ 1 ∷ 0 ∷ 4 ∷ 1 ∷ 6 ∷ 0 ∷ []) 0 0 ≡ Err (refuse_of short)
unfolding read_code_of must read_header_of rest_at read_by number_at numbers_at with_slots read_follows_of chained_at record_at cut_of
    codes_of codes_at codes_from next_code_of form_of in_slots in_two in_three beyond_of
count_1 = refl

-- with `21` in byte 5
info_2 : read_code_of (1 ∷ 4 ∷ 2 ∷ 0 ∷ 4 ∷ 33 ∷ 6 ∷ 0 ∷ []) 0 0 ≡ Err (refuse_of operation)
unfolding read_code_of must read_header_of rest_at read_by number_at numbers_at with_slots read_follows_of chained_at record_at cut_of
    codes_of codes_at codes_from next_code_of form_of in_slots in_two in_three beyond_of
info_2 = refl

-- all the slots are there before one is decoded
slots_before_codes : read_code_of (1 ∷ 0 ∷ 2 ∷ 0 ∷ 0 ∷ 15 ∷ []) 0 0 ≡ Err (refuse_of short)
unfolding read_code_of must read_header_of rest_at read_by number_at numbers_at with_slots read_follows_of chained_at record_at cut_of
    codes_of codes_at codes_from next_code_of form_of in_slots in_two in_three beyond_of
slots_before_codes = refl

-- a code is refused before the record after it is missed
codes_before_the_chain : read_code_of (33 ∷ 0 ∷ 1 ∷ 0 ∷ 0 ∷ 15 ∷ 0 ∷ 0 ∷ []) 0 0 ≡ Err (refuse_of operation)
unfolding read_code_of must read_header_of rest_at read_by number_at numbers_at with_slots read_follows_of chained_at record_at cut_of
    codes_of codes_at codes_from next_code_of form_of in_slots in_two in_three beyond_of
codes_before_the_chain = refl

chain_after_the_codes : read_code_of (33 ∷ 0 ∷ 1 ∷ 0 ∷ 0 ∷ 48 ∷ 0 ∷ 0 ∷ []) 0 0 ≡ Err (refuse_of short)
unfolding read_code_of must read_header_of rest_at read_by number_at numbers_at with_slots read_follows_of chained_at record_at cut_of
    codes_of codes_at codes_from next_code_of form_of in_slots in_two in_three beyond_of
chain_after_the_codes = refl

-- the codes before one that is refused are there
before_a_bad_code : read_code_of (1 ∷ 0 ∷ 2 ∷ 0 ∷ 0 ∷ 48 ∷ 0 ∷ 15 ∷ []) 0 0 ≡ is 0 (PushNonVolatile (general 3))
unfolding read_code_of must read_header_of rest_at read_by number_at numbers_at with_slots read_follows_of chained_at record_at cut_of
    codes_of codes_at codes_from next_code_of form_of in_slots in_two in_three beyond_of
before_a_bad_code = refl

a_bad_code : read_code_of (1 ∷ 0 ∷ 2 ∷ 0 ∷ 0 ∷ 48 ∷ 0 ∷ 15 ∷ []) 0 1 ≡ Err (refuse_of operation)
unfolding read_code_of must read_header_of rest_at read_by number_at numbers_at with_slots read_follows_of chained_at record_at cut_of
    codes_of codes_at codes_from next_code_of form_of in_slots in_two in_three beyond_of
a_bad_code = refl

-- and nothing after it is
after_a_bad_code : read_code_of (1 ∷ 0 ∷ 2 ∷ 0 ∷ 0 ∷ 48 ∷ 0 ∷ 15 ∷ []) 0 2 ≡ Err (refuse_of operation)
unfolding read_code_of must read_header_of rest_at read_by number_at numbers_at with_slots read_follows_of chained_at record_at cut_of
    codes_of codes_at codes_from next_code_of form_of in_slots in_two in_three beyond_of
after_a_bad_code = refl

no_codes : read_code_of (2 ∷ 0 ∷ 0 ∷ 0 ∷ []) 0 0 ≡ Err (refuse_of not_found)
unfolding read_code_of must read_header_of rest_at read_by number_at numbers_at with_slots read_follows_of chained_at record_at cut_of
    codes_of codes_at codes_from next_code_of form_of in_slots in_two in_three beyond_of
no_codes = refl
