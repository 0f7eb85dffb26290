-- The registers that codes name: a step leaves the others as they are, RSP and RIP aside.
-- Assumes nothing.
use Rattle.std.specs.Prelude.{ℕ, List, [], ◌∷◌, Bool, false, ◌||◌, eqb}
use Rattle.unwind_operation.specs.declared.UnwindOperation.{UnwindOperation}
use Rattle.unwind_operation.specs.declared.UnwindOperation.TheVariants.{PushNonVolatile, Alloc, SetFPRegister, SaveNonVolatile, SaveXMM, Epilog, SaveXMM128, PushMachineFrame, Noop}
use Rattle.unwind_array.specs.Arrays.{ChainCode}
use Rattle.unwind_undo.specs.Undo.{xmm_number}

-- 16.4: an operation names general register `r`
abbrev pub names_gpr : ℕ → UnwindOperation → Bool
names_gpr r (PushNonVolatile q) = eqb r q.0
names_gpr r (Alloc n) = false
names_gpr r SetFPRegister = false
names_gpr r (SaveNonVolatile q o) = eqb r q.0
names_gpr r (SaveXMM q o) = false
names_gpr r (Epilog a b) = false
names_gpr r (SaveXMM128 q o) = false
names_gpr r (PushMachineFrame code) = false
names_gpr r Noop = false

-- 16.4: an operation names XMM register `n`
abbrev pub names_xmm : ℕ → UnwindOperation → Bool
names_xmm n (PushNonVolatile q) = false
names_xmm n (Alloc m) = false
names_xmm n SetFPRegister = false
names_xmm n (SaveNonVolatile q o) = false
names_xmm n (SaveXMM q o) = eqb n (xmm_number q)
names_xmm n (Epilog a b) = false
names_xmm n (SaveXMM128 q o) = eqb n (xmm_number q)
names_xmm n (PushMachineFrame code) = false
names_xmm n Noop = false

-- a code is among them whose operation does
abbrev pub any_of : (UnwindOperation → Bool) → List ChainCode → Bool
any_of names [] = false
any_of names (c ∷ cs) = names c.code.operation || any_of names cs
