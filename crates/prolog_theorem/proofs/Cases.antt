-- The theorem is not empty: runs that meet all its hypotheses, and what it gives for them. The first two are cases of the request.
-- Assumes nothing.
use mathlib.Core.Path.{◌≡◌, refl, ◌∙◌}
use mathlib.Core.Logic.{◌≢◌}
use mathlib.Core.Bool.{true}
use mathlib.Core.List.{[], ◌∷◌}
use Prim.Native.Nat.{ℕ, ◌+◌, ◌*◌}
use native.Mathlib.Omega.{arith}
use lib.ListN.{get_or, set}
use lib.Seq.{get_or-set_other}
use Rattle.unwind_operation.specs.declared.StackFrameOffset.TheVariants.{RSP, FP}
use Rattle.unwind_operation.specs.declared.UnwindOperation.TheVariants.{PushNonVolatile, Alloc, SetFPRegister}
use Rattle.unwind_operation.specs.declared.UnwindOperation.TheVariants.{SaveNonVolatile, SaveXMM128, PushMachineFrame}
use Rattle.unwind_array.specs.Arrays.{Arrays, joined_of}
use Rattle.unwind_state.specs.State.{with_rsp, with_rip, with_gpr, with_xmm, word_at}
use Rattle.unwind_state.specs.declared.State.{State}
use Rattle.unwind_undo.specs.Undo.{caller, lost, undo_of, undo_from, last_step, base_when_undone, unwind_of}
use Rattle.unwind_undo.specs.Distance.{at, whole, undone_of}
use Rattle.strict_prolog.specs.Strict.{strict}
use Rattle.prolog_machine.specs.Machine.{Machine, Entry, called, interrupted, run, with_registers, with_word}
use Rattle.prolog_machine.specs.Stop.{ran_of, Sized, Body, inside, after, free_after, Fits}
use Rattle.prolog_theorem.specs.Recovered.{Recovered}
use Rattle.prolog_theorem.proofs.Samples.{code, general, xmm, array, alone, registers_at, numbered, machine_at, window_at}
use Rattle.prolog_theorem.proofs.Theorem.{unwinding_undoes_the_prolog, unwinding_recovers_what_was_kept}

sized : (sp : ℕ) → Sized (registers_at sp)
sized sp = record { general = refl; xmm = refl }

-- the caller, of a machine with these registers
abbrev caller_at : ℕ → ℕ → State
caller_at rip sp = with_rip (registers_at sp) rip

-- ---- an allocation of 40 bytes: `01 04 01 00 04 42 00 00`

abbrev forty : Arrays
forty = alone (array 0 0 4 (code 4 (Alloc 40) ∷ []))

pub forty_strict : strict forty ≡ true
unfolding strict
forty_strict = refl

-- at distance 4 RSP is 0x1000: RIP is the word at 0x1028, and RSP becomes 0x1030
pub forty_at_4 :
    unwind_of base_when_undone (window_at numbered 0x1000 16) (undone_of (at 4) (joined_of forty)) (registers_at 0x1000)
    ≡ caller (caller_at (numbered 0x1028) 0x1030)
unfolding joined_of word_at
forty_at_4 =
    unwinding_undoes_the_prolog forty (at 4) called (machine_at 0x1028) (machine_at 0x1000) (window_at numbered 0x1000 16) forty_strict (tt, tt)
    (sized 0x1028) tt (inside (record { general = refl; xmm = refl; memory = λ x. refl })) (omega arith, omega arith) (refl, tt)

-- at distance 3 RSP is 0x1000 as at entry: RIP is the word there, and RSP becomes 0x1008
pub forty_at_3 :
    unwind_of base_when_undone (window_at numbered 0x1000 16) (undone_of (at 3) (joined_of forty)) (registers_at 0x1000)
    ≡ caller (caller_at (numbered 0x1000) 0x1008)
unfolding joined_of word_at
forty_at_3 =
    unwinding_undoes_the_prolog forty (at 3) called (machine_at 0x1000) (machine_at 0x1000) (window_at numbered 0x1000 16) forty_strict (tt, tt)
    (sized 0x1000) tt (inside (record { general = refl; xmm = refl; memory = λ x. refl })) (omega arith) (refl, tt)

-- ---- two infos: the chained one pushes RBX and allocates, the found one saves RDI and RSI above the return address

abbrev linked : Arrays
linked =
    record {
      found =
          array 0 0 8 (code 8 (SaveNonVolatile (general 6) (RSP 56)) ∷ code 4 (SaveNonVolatile (general 7) (RSP 48)) ∷ []);
      outer = array 0 0 6 (code 6 (Alloc 32) ∷ code 2 (PushNonVolatile (general 3)) ∷ []) ∷ [];
    }

pub linked_strict : strict linked ≡ true
unfolding strict
linked_strict = refl

-- between the two saves
abbrev linked_stop : Machine
linked_stop = run called (ran_of (at 4) linked) (machine_at 0x2000)

pub linked_at_4 :
    unwind_of base_when_undone (window_at linked_stop.memory 0x1FC0 16) (undone_of (at 4) (joined_of linked)) linked_stop.registers
    ≡ caller (caller_at (numbered 0x2000) 0x2008)
unfolding joined_of word_at
linked_at_4 =
    unwinding_undoes_the_prolog linked (at 4) called (machine_at 0x2000) linked_stop (window_at linked_stop.memory 0x1FC0 16) linked_strict
    (omega arith, (omega arith, (tt, (omega arith, tt))))
    (sized 0x2000) tt (inside (record { general = refl; xmm = refl; memory = λ x. refl }))
    (omega arith, (omega arith, (omega arith, omega arith))) (refl, (refl, (refl, tt)))

-- ---- a frame register and a body: push RBP, allocate, RBP is RSP + 32, save RBX and XMM6

abbrev with_frame : Arrays
with_frame =
    alone
    (array 5 32 20
    (code 20 (SaveXMM128 (xmm 6) (FP 32))
    ∷ code 16 (SaveNonVolatile (general 3) (FP 16))
    ∷ code 12 SetFPRegister
    ∷ code 5 (Alloc 64)
    ∷ code 1 (PushNonVolatile (general 5))
    ∷ []))

pub frame_strict : strict with_frame ≡ true
unfolding strict
frame_strict = refl

abbrev prolog_end : Machine
prolog_end = run called (joined_of with_frame) (machine_at 0x3000)

-- the body allocates more, and changes RBX, XMM6 and a word of its own
abbrev body_end : Machine
body_end =
    with_word (with_registers prolog_end (with_rsp (with_xmm (with_gpr prolog_end.registers 3 77) 6 78 79) 0x2F00)) 0x2F08 80

frame_body : Body called (joined_of with_frame) with_frame.found.frame (machine_at 0x3000) prolog_end body_end
unfolding joined_of
frame_body =
    record {
      free =
          record {
            frame_register_of = λ _. refl;
            stack_pointer = λ e. absurd (omega arith);
            words_written = (refl, (refl, (refl, (refl, tt))));
            words_of_entry = (refl, tt);
          };
      general =
          λ r r4 k.
          get_or-set_other (with_gpr prolog_end.registers 3 77).gpr 4 r 0x2F00 0 r4 ∙ get_or-set_other prolog_end.registers.gpr 3 r 77 0 k.0;
      xmm = λ x k. (word (2 * x) (λ e. k.0 (omega arith)) (λ e. omega arith), word (2 * x + 1) (λ e. omega arith) (λ e. k.0 (omega arith)));
    }
  where
    word : (j : ℕ) → j ≢ 12 → j ≢ 13 → get_or body_end.registers.xmm j 0 ≡ get_or prolog_end.registers.xmm j 0
    word j a b = get_or-set_other (set prolog_end.registers.xmm 12 78) 13 j 79 0 b ∙ get_or-set_other prolog_end.registers.xmm 12 j 78 0 a

pub frame_after_body :
    unwind_of base_when_undone (window_at body_end.memory 0x2F00 40) (undone_of whole (joined_of with_frame)) body_end.registers
    ≡ caller (caller_at (numbered 0x3000) 0x3008)
unfolding joined_of word_at
frame_after_body =
    unwinding_undoes_the_prolog with_frame whole called (machine_at 0x3000) body_end (window_at body_end.memory 0x2F00 40) frame_strict
    (omega arith, (omega arith, (tt, (tt, (omega arith, tt))))) (sized 0x3000) tt
    (after tt (record { general = refl; xmm = refl }) frame_body)
    (omega arith, (omega arith, (omega arith, (omega arith, (omega arith, omega arith)))))
    (refl, (refl, (refl, (refl, (refl, tt)))))

-- a real body, which changes RAX too
abbrev real_end : Machine
real_end = with_registers body_end (with_gpr body_end.registers 0 55)

pub frame_after_a_real_body :
    (t : State)
    × (unwind_of base_when_undone (window_at real_end.memory 0x2F00 40) (undone_of whole (joined_of with_frame)) real_end.registers ≡ caller t)
    × Recovered called (ran_of whole with_frame) (machine_at 0x3000) real_end t
unfolding joined_of word_at
frame_after_a_real_body =
    unwinding_recovers_what_was_kept with_frame whole called (machine_at 0x3000) real_end (window_at real_end.memory 0x2F00 40) frame_strict
    (omega arith, (omega arith, (tt, (tt, (omega arith, tt))))) (sized 0x3000) tt
    (free_after tt (record { general = refl; xmm = refl })
    (record {
      frame_register_of = λ _. refl;
      stack_pointer = λ e. absurd (omega arith);
      words_written = (refl, (refl, (refl, (refl, tt))));
      words_of_entry = (refl, tt);
    }))
    (omega arith, (omega arith, (omega arith, (omega arith, (omega arith, omega arith)))))
    (refl, (refl, (refl, (refl, (refl, tt)))))

-- that is the caller, but for RAX
pub frame_after_a_real_body_is :
    unwind_of base_when_undone (window_at real_end.memory 0x2F00 40) (undone_of whole (joined_of with_frame)) real_end.registers
    ≡ caller (with_gpr (caller_at (numbered 0x3000) 0x3008) 0 55)
unfolding joined_of word_at undone_of unwind_of undo_from undo_of last_step
frame_after_a_real_body_is = refl

-- ---- a machine frame with an error code, then a push and an allocation

abbrev trapped : Arrays
trapped =
    alone (array 0 0 10 (code 10 (Alloc 40) ∷ code 6 (PushNonVolatile (general 3)) ∷ code 2 (PushMachineFrame true) ∷ []))

pub trapped_strict : strict trapped ≡ true
unfolding strict
trapped_strict = refl

abbrev trapped_stop : Entry → ℕ → ℕ → Machine
trapped_stop entry d sp = run entry (ran_of (at d) trapped) (machine_at sp)

-- before the frame is pushed
pub trapped_at_1 :
    unwind_of base_when_undone (window_at numbered 0x4000 1) (undone_of (at 1) (joined_of trapped)) (trapped_stop called 1 0x4000).registers
    ≡ caller (caller_at (numbered 0x4000) 0x4008)
unfolding joined_of word_at
trapped_at_1 =
    unwinding_undoes_the_prolog trapped (at 1) called (machine_at 0x4000) (machine_at 0x4000) (window_at numbered 0x4000 1) trapped_strict
    (tt, (omega arith, (tt, tt))) (sized 0x4000) tt (inside (record { general = refl; xmm = refl; memory = λ x. refl })) (omega arith)
    (refl, tt)

-- after it: the same caller
pub trapped_at_6 :
    unwind_of base_when_undone (window_at (trapped_stop called 6 0x4000).memory 0x3FC0 10) (undone_of (at 6) (joined_of trapped))
    (trapped_stop called 6 0x4000).registers
    ≡ caller (caller_at (numbered 0x4000) 0x4008)
unfolding joined_of word_at
trapped_at_6 =
    unwinding_undoes_the_prolog trapped (at 6) called (machine_at 0x4000) (trapped_stop called 6 0x4000)
    (window_at (trapped_stop called 6 0x4000).memory 0x3FC0 10) trapped_strict (tt, (omega arith, (tt, tt))) (sized 0x4000) tt
    (inside (record { general = refl; xmm = refl; memory = λ x. refl })) (omega arith, (omega arith, omega arith))
    (refl, (refl, (refl, tt)))

-- where the processor pushed the frame, RIP and RSP are what lies in it
pub interrupted_at_10 :
    unwind_of base_when_undone (window_at (trapped_stop (interrupted true) 10 0x5000).memory 0x4FC0 20) (undone_of (at 10) (joined_of trapped))
    (trapped_stop (interrupted true) 10 0x5000).registers
    ≡ caller (caller_at (numbered 0x5008) (numbered 0x5020))
unfolding joined_of word_at
interrupted_at_10 =
    unwinding_undoes_the_prolog trapped (at 10) (interrupted true) (machine_at 0x5000) (trapped_stop (interrupted true) 10 0x5000)
    (window_at (trapped_stop (interrupted true) 10 0x5000).memory 0x4FC0 20) trapped_strict (tt, (omega arith, (tt, tt))) (sized 0x5000) refl
    (inside (record { general = refl; xmm = refl; memory = λ x. refl })) (omega arith, (omega arith, (tt, omega arith)))
    (refl, (refl, (refl, tt)))

-- ---- an address that leaves 64 bits: `01 04 02 F5 04 03 01 50` with RSP 2^64 - 16 at entry

abbrev near_the_top : Arrays
near_the_top = alone (array 5 240 4 (code 4 SetFPRegister ∷ code 1 (PushNonVolatile (general 5)) ∷ []))

pub near_the_top_strict : strict near_the_top ≡ true
unfolding strict
near_the_top_strict = refl

-- the frame register would be RSP and 240, which no word is read at; in 64 bits it is 216, and the step answers 12
pub near_the_top_is_lost :
    unwind_of base_when_undone (window_at numbered 0xFFFFFFFFFFFFFFE8 2) (undone_of (at 4) (joined_of near_the_top))
    (with_gpr (registers_at 0xFFFFFFFFFFFFFFE8) 5 216)
    ≡ lost
unfolding joined_of undone_of unwind_of undo_from undo_of
near_the_top_is_lost = refl

-- which the theorem leaves out: no run fits there
pub near_the_top_does_not_fit : ¬ Fits called (ran_of (at 4) near_the_top) (machine_at 0xFFFFFFFFFFFFFFF0)
near_the_top_does_not_fit fits = let h = fits.0 in omega arith
