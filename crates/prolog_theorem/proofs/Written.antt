-- What the machine writes is what `written` names, and nothing else: of the definitions of a stop, for any codes.
-- Assumes nothing.
use mathlib.Core.Path.{◌≡◌, refl, ◌∙◌}
use mathlib.Core.List.{List, [], ◌∷◌, ◌++◌}
use Prim.Native.Nat.{ℕ, ◌+◌, ◌-◌}
use lib.ListN.{length, length-set}
use Rattle.unwind_operation.specs.declared.UnwindOperation.{UnwindOperation}
use Rattle.unwind_operation.specs.declared.UnwindOperation.TheVariants.{PushNonVolatile, Alloc, SetFPRegister, SaveNonVolatile, SaveXMM}
use Rattle.unwind_operation.specs.declared.UnwindOperation.TheVariants.{Epilog, SaveXMM128, PushMachineFrame, Noop}
use Rattle.unwind_array.specs.Arrays.{Frame, ChainCode}
use Rattle.unwind_undo.specs.Undo.{place_of, xmm_number}
use Rattle.prolog_machine.specs.Machine.{Machine, rsp_of, write, xmm_low, Entry, called, interrupted, run_one, run}
use Rattle.prolog_machine.specs.Stop.{NotIn, written_by, written, FitsOne, Fits}
use Rattle.prolog_theorem.proofs.Acts.{write_other}
use Rattle.prolog_theorem.proofs.Runs.{frame_made, frame_size}

one_size : (entry : Entry) (f : Frame) (o : UnwindOperation) (p : Machine)
    → length (run_one entry f o p).registers.gpr ≡ length p.registers.gpr
one_size entry f (PushNonVolatile r) p = length-set p.registers.gpr 4 _
one_size entry f (Alloc n) p = length-set p.registers.gpr 4 _
one_size entry f SetFPRegister p = length-set p.registers.gpr f.register _
one_size entry f (SaveNonVolatile r o) p = refl
one_size entry f (SaveXMM r o) p = refl
one_size entry f (Epilog x y) p = refl
one_size entry f (SaveXMM128 r o) p = refl
one_size entry f (PushMachineFrame c) p = frame_size entry c p
one_size entry f Noop p = refl

run_size : (entry : Entry) (cs : List ChainCode) (m : Machine) → length (run entry cs m).registers.gpr ≡ length m.registers.gpr
run_size entry [] m = refl
run_size entry (c ∷ cs) m = one_size entry c.frame c.code.operation (run entry cs m) ∙ run_size entry cs m

one_stays : (entry : Entry) (f : Frame) (o : UnwindOperation) (p : Machine) (x : ℕ) → length p.registers.gpr ≡ 16 → FitsOne entry f o p
    → NotIn x (written_by entry o p) → (run_one entry f o p).memory x ≡ p.memory x
one_stays entry f (PushNonVolatile r) p x l fit n = write_other p.memory (rsp_of p - 8) _ x n.0
one_stays entry f (Alloc k) p x l fit n = refl
one_stays entry f SetFPRegister p x l fit n = refl
one_stays entry f (SaveNonVolatile r o) p x l fit n = write_other p.memory (rsp_of p + place_of o) _ x n.0
one_stays entry f (SaveXMM r o) p x l fit n = write_other p.memory (rsp_of p + place_of o) _ x n.0
one_stays entry f (Epilog a b) p x l fit n = refl
one_stays entry f (SaveXMM128 r o) p x l fit n =
    write_other (write p.memory (rsp_of p + place_of o) (xmm_low p (xmm_number r))) (rsp_of p + place_of o + 8) _ x n.1.0
    ∙ write_other p.memory (rsp_of p + place_of o) _ x n.0
one_stays called f (PushMachineFrame c) p x l fit n = (frame_made c p l fit).elsewhere x n
one_stays (interrupted e) f (PushMachineFrame c) p x l fit n = refl
one_stays entry f Noop p x l fit n = refl

not_in_both : (x : ℕ) (xs ys : List ℕ) → NotIn x (xs ++ ys) → NotIn x xs × NotIn x ys
not_in_both x [] ys n = (tt, n)
not_in_both x (y ∷ xs) ys n = let h = not_in_both x xs ys n.1 in ((n.0, h.0), h.1)

-- A word that a prolog does not write stays, whatever its codes are, as long as no address leaves 64 bits.
pub unwritten_words_stay :
    (entry : Entry) (cs : List ChainCode) (m : Machine) (x : ℕ)
    → length m.registers.gpr ≡ 16
    → Fits entry cs m
    → NotIn x (written entry cs m)
    → (run entry cs m).memory x ≡ m.memory x
unwritten_words_stay entry [] m x l fit n = refl
unwritten_words_stay entry (c ∷ cs) m x l fit n =
    let h = not_in_both x (written_by entry c.code.operation (run entry cs m)) (written entry cs m) n in
    one_stays entry c.frame c.code.operation (run entry cs m) x (run_size entry cs m ∙ l) fit.0 h.0
    ∙ unwritten_words_stay entry cs m x l fit.1 h.1
