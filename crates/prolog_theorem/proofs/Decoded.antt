-- Codes whose registers are in range, as decoding gives them, are small.
-- Assumes nothing.
use mathlib.Core.List.{List, [], ◌∷◌, ◌++◌}
use mathlib.Core.Bool.{Bool, true, false}
use Prim.Native.Nat.{ℕ}
use native.Mathlib.Omega.{arith}
use Rattle.unwind_operation.specs.declared.UnwindOperation.{UnwindOperation}
use Rattle.unwind_operation.specs.declared.UnwindOperation.TheVariants.{PushNonVolatile, Alloc, SetFPRegister, SaveNonVolatile, SaveXMM}
use Rattle.unwind_operation.specs.declared.UnwindOperation.TheVariants.{Epilog, SaveXMM128, PushMachineFrame, Noop}
use Rattle.unwind_operation.specs.declared.UnwindCode.{UnwindCode}
use Rattle.unwind_operation.proofs.Laws.{InRange}
use Rattle.unwind_array.specs.Arrays.{Frame, CodeArray, Arrays, ChainCode, codes_from, outer_codes, joined_of}
use Rattle.prolog_machine.specs.Stop.{SmallOperation, Small}

in_range_small : (o : UnwindOperation) → InRange o → SmallOperation o
in_range_small (PushNonVolatile r) h = h
in_range_small (Alloc n) h = tt
in_range_small SetFPRegister h = tt
in_range_small (SaveNonVolatile r o) h = h
in_range_small (SaveXMM r o) h = omega (arith, h.0, h.1)
in_range_small (Epilog x y) h = tt
in_range_small (SaveXMM128 r o) h = omega (arith, h.0, h.1)
in_range_small (PushMachineFrame e) h = tt
in_range_small Noop h = tt

abbrev pub AllInRange : List UnwindCode → Type 0
AllInRange [] = Unit {0}
AllInRange (c ∷ cs) = InRange c.operation × AllInRange cs

abbrev pub EachInRange : List CodeArray → Type 0
EachInRange [] = Unit {0}
EachInRange (x ∷ xs) = AllInRange x.codes × EachInRange xs

small_codes : (f : Frame) (p : ℕ) (t b : Bool) (cs : List UnwindCode) (ds : List ChainCode) → AllInRange cs → Small ds
    → Small (codes_from f p t b cs ++ ds)
small_codes f p t b [] ds h k = k
small_codes f p t b (c ∷ cs) ds h k = (in_range_small c.operation h.0, small_codes f p t false cs ds h.1 k)

small_outer : (xs : List CodeArray) → EachInRange xs → Small (outer_codes xs)
small_outer [] h = tt
small_outer (x ∷ xs) h = small_codes x.frame x.prolog false true x.codes (outer_codes xs) h.0 (small_outer xs h.1)

pub in_range_codes_are_small : (a : Arrays) → AllInRange a.found.codes → EachInRange a.outer → Small (joined_of a)
unfolding joined_of
in_range_codes_are_small a h k =
    small_codes a.found.frame a.found.prolog true true a.found.codes (outer_codes a.outer) h (small_outer a.outer k)
