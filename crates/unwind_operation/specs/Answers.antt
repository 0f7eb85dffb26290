-- What the answer of this crate stands for, and how many numbers that is.
-- Assumes nothing.
use Rattle.std.specs.Prelude.{Result, List, [], ◌∷◌, ℕ}
use Rattle.answer.specs.Answer.{Answer, answer_of}
use Rattle.answer.specs.Bit.{bit_of}
use Rattle.answer.specs.declared.Refusal.{Refusal}
use Rattle.unwind_operation.specs.declared.StackFrameOffset.{StackFrameOffset}
use Rattle.unwind_operation.specs.declared.StackFrameOffset.TheVariants.{RSP, FP}
use Rattle.unwind_operation.specs.declared.UnwindOperation.{UnwindOperation}
use Rattle.unwind_operation.specs.declared.UnwindOperation.TheVariants.{PushNonVolatile, Alloc, SetFPRegister, SaveNonVolatile, SaveXMM, Epilog, SaveXMM128, PushMachineFrame, Noop}
use Rattle.unwind_operation.specs.declared.UnwindCode.{UnwindCode}
use Rattle.unwind_operation.specs.declared.TakenCode.{TakenCode}

-- 11.15: the base, 0 for RSP and 1 for the frame register, then the offset
abbrev pub offset_numbers : StackFrameOffset → List ℕ
offset_numbers (RSP n) = 0 ∷ n ∷ []
offset_numbers (FP n) = 1 ∷ n ∷ []

-- 11.15, 15.4: kind, register, base, amount
abbrev pub operation_numbers : UnwindOperation → List ℕ
operation_numbers (PushNonVolatile r) = 0 ∷ r.0 ∷ 0 ∷ 0 ∷ []
operation_numbers (Alloc n) = 1 ∷ 0 ∷ 0 ∷ n ∷ []
operation_numbers SetFPRegister = 2 ∷ 0 ∷ 0 ∷ 0 ∷ []
operation_numbers (SaveNonVolatile r o) = 3 ∷ r.0 ∷ offset_numbers o
operation_numbers (SaveXMM r o) = 4 ∷ r.0 ∷ offset_numbers o
operation_numbers (Epilog low high) = 5 ∷ 0 ∷ high ∷ low ∷ []
operation_numbers (SaveXMM128 r o) = 6 ∷ r.0 ∷ offset_numbers o
operation_numbers (PushMachineFrame e) = 7 ∷ 0 ∷ 0 ∷ bit_of e ∷ []
operation_numbers Noop = 8 ∷ 0 ∷ 0 ∷ 0 ∷ []

-- the code offset, then the operation
abbrev pub code_numbers : UnwindCode → List ℕ
code_numbers c = c.code_offset ∷ operation_numbers c.operation

-- the place after the operation, then the code
abbrev pub answer_next_code : Result TakenCode Refusal → Answer
answer_next_code = answer_of (λ t. t.next ∷ code_numbers t.code)

abbrev pub count_next_code : ℕ
count_next_code = 6
