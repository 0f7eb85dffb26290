-- Which conditions of a strict prolog the theorem needs: for each a chain that meets all others, and a stop where the step's answer is not the
-- caller, though all else is as `unwinding_from_a_spanning_window` asks.
--
-- Two are not among them: the theorem holds without them (`ten_conditions_are_enough`). 4, epilogs first: they do nothing. 7, the frame register
-- is not RSP: it was pushed (9), and RSP never is (10). Of some others there is a part that no stop tells from its absence. Of 1, at most one set
-- frame: a second one sets the same. Of 5, nothing without effect: it does nothing. Of 10, RSP is never saved: the saved word is RSP as it is. Of
-- 11, XMM registers at multiples of 16: multiples of 8 would do.
-- Assumes nothing.
use mathlib.Core.Path.{◌≡◌, refl, ap, ◌∙◌}
use mathlib.Core.Logic.{◌≢◌}
use mathlib.Core.Bool.{Bool, false}
use mathlib.Core.List.{List, [], ◌∷◌}
use Prim.Native.Nat.{ℕ, zero, suc, ◌+◌, ◌*◌, ◌%◌, ◌<◌, ◌≤◌}
use native.Mathlib.Omega.{arith}
use lib.ListN.{length, get_or, set}
use lib.Seq.{get_or-set_other}
use Rattle.answer.specs.Test.{pick}
use Rattle.unwind_operation.specs.declared.StackFrameOffset.TheVariants.{RSP, FP}
use Rattle.unwind_operation.specs.declared.UnwindOperation.TheVariants.{PushNonVolatile, Alloc, SetFPRegister, SaveNonVolatile, SaveXMM}
use Rattle.unwind_operation.specs.declared.UnwindOperation.TheVariants.{PushMachineFrame}
use Rattle.unwind_array.specs.Arrays.{Arrays, joined_of}
use Rattle.unwind_state.specs.State.{Window, gpr, with_xmm, word_at}
use Rattle.unwind_undo.specs.Undo.{Undone, on, caller, lost, undo_of, undo_from, last_step, base_when_undone, unwind_of}
use Rattle.unwind_undo.specs.Distance.{Distance, at, whole, undone_of}
use Rattle.strict_prolog.specs.Strict.{conditions}
use Rattle.prolog_machine.specs.Machine.{Memory, Machine, rsp_of, Entry, called, run, caller_of, with_registers}
use Rattle.prolog_machine.specs.Stop.{Every, ran_of, Small, Sized, Entered, Stop, inside, after, Reaches, Fits, needed, Holds, Spans}
use Rattle.prolog_theorem.proofs.Chain.{Enough, undoes_enough}
use Rattle.prolog_theorem.proofs.Samples.{code, general, xmm, array, alone, registers_at, machine_at, words_from, window_at}

-- the numbers of the conditions that fail, from one on
abbrev failing : ℕ → List Bool → List ℕ
failing k [] = []
failing k (t ∷ ts) = pick t (failing (suc k) ts) (k ∷ failing (suc k) ts)

-- without condition `k` alone, the step's answer at a stop is not the caller
pub record Breaks (k : ℕ) (a : Arrays) (d : Distance) (entry : Entry) (m n : Machine) (w : Window) : Type 0 where
  pub others : failing 1 (conditions a) ≡ k ∷ []
  pub small : Small (joined_of a)
  pub reaches : Reaches entry a d m n
  pub aligned : rsp_of m % 8 ≡ 0
  pub spans : Spans w n.memory (needed entry (ran_of d a) m)
  pub wrong : unwind_of base_when_undone w (undone_of d (joined_of a)) n.registers ≢ caller (caller_of entry m)

-- The theorem from ten of the thirteen conditions: 4 and 7 are not asked for, and 11 only where a window spans the words.
pub ten_conditions_are_enough :
    (a : Arrays) (d : Distance) (entry : Entry) (m n : Machine) (w : Window)
    → Enough a
    → Small (joined_of a)
    → Sized m.registers
    → Entered entry (ran_of d a)
    → Stop entry a d m n
    → Fits entry (ran_of d a) m
    → Holds w n.memory (needed entry (ran_of d a) m)
    → unwind_of base_when_undone w (undone_of d (joined_of a)) n.registers ≡ caller (caller_of entry m)
ten_conditions_are_enough = undoes_enough

-- ---- windows and answers

words_length : (memory : Memory) (a n : ℕ) → length (words_from memory a n) ≡ n
words_length memory a zero = refl
words_length memory a (suc n) = ap suc (words_length memory (a + 8) n)

words_at : (memory : Memory) (a n i : ℕ) → i < n → get_or (words_from memory a n) i 0 ≡ memory (a + 8 * i)
words_at memory a zero i h = absurd (omega arith)
words_at memory a (suc n) zero h = ap memory (omega arith)
words_at memory a (suc n) (suc i) h = words_at memory (a + 8) n i (omega arith) ∙ ap memory (omega arith)

spanning : (memory : Memory) (a n : ℕ) (xs : List ℕ) → a % 8 ≡ 0 → Every (λ x. a ≤ x) xs → Every (λ x. x < a + 8 * n) xs
    → Spans (window_at memory a n) memory xs
spanning memory a n xs e lo hi =
    record {
      aligned = e;
      words = λ i h. words_at memory a n i (rw (words_length memory a n) at h);
      low = lo;
      high = rw (words_length memory a n) hi;
    }

-- a register or RIP of an answer, 0 where there is none
abbrev rip_in : Undone → ℕ
rip_in (on s) = 0
rip_in (caller s) = s.rip
rip_in lost = 0

abbrev general_in : ℕ → Undone → ℕ
general_in r (on s) = 0
general_in r (caller s) = gpr s r
general_in r lost = 0

abbrev xmm_in : ℕ → Undone → ℕ
xmm_in j (on s) = 0
xmm_in j (caller s) = get_or s.xmm j 0
xmm_in j lost = 0

sized : (sp : ℕ) → Sized (registers_at sp)
sized sp = record { general = refl; xmm = refl }

-- ---- a function that is called with RSP 0x1000 and stopped inside its prolog, and a window around that

abbrev stop_at : Arrays → Distance → Machine
stop_at a d = run called (ran_of d a) (machine_at 0x1000)

abbrev around : Machine → Window
around n = window_at n.memory 0xF00 64

abbrev answer_at : Arrays → Distance → Machine → Undone
answer_at a d n = unwind_of base_when_undone (around n) (undone_of d (joined_of a)) n.registers

abbrev Broken : ℕ → Arrays → Distance → Type 0
Broken k a d = Breaks k a d called (machine_at 0x1000) (stop_at a d) (around (stop_at a d))

broken : (k : ℕ) (a : Arrays) (d : Distance) → failing 1 (conditions a) ≡ k ∷ [] → Small (joined_of a)
    → Fits called (ran_of d a) (machine_at 0x1000) → Every (λ x. 0xF00 ≤ x) (needed called (ran_of d a) (machine_at 0x1000))
    → Every (λ x. x < 0xF00 + 8 * 64) (needed called (ran_of d a) (machine_at 0x1000))
    → answer_at a d (stop_at a d) ≢ caller (caller_of called (machine_at 0x1000)) → Broken k a d
broken k a d others small fits lo hi wrong =
    record {
      others = others;
      small = small;
      reaches =
          record {
            sized = sized 0x1000;
            entered = tt;
            stop = inside (record { general = refl; xmm = refl; memory = λ x. refl });
            fits = fits;
          };
      aligned = refl;
      spans = spanning (stop_at a d).memory 0xF00 64 (needed called (ran_of d a) (machine_at 0x1000)) refl lo hi;
      wrong = wrong;
    }

-- ---- 1. order

-- a save before the allocation that it lies in overwrites the return address
abbrev save_first : Arrays
save_first = alone (array 0 0 2 (code 2 (Alloc 8) ∷ code 1 (SaveNonVolatile (general 3) (RSP 0)) ∷ []))

pub order_needed : Broken 1 save_first (at 2)
unfolding joined_of undone_of unwind_of undo_from undo_of last_step word_at
order_needed =
    broken 1 save_first (at 2) refl (tt, (omega arith, tt)) (omega arith, (omega arith, omega arith)) (omega arith, (omega arith, tt))
    (omega arith, (omega arith, tt)) (λ e. let h = ap rip_in e in omega arith)

-- a push before a machine frame is not undone, and stands where the frame takes its RIP from
abbrev push_first : Arrays
push_first = alone (array 0 0 2 (code 2 (PushMachineFrame false) ∷ code 1 (PushNonVolatile (general 3)) ∷ []))

pub frame_first_needed : Broken 1 push_first (at 2)
unfolding joined_of undone_of unwind_of undo_from undo_of last_step word_at
frame_first_needed =
    broken 1 push_first (at 2) refl (tt, (omega arith, tt)) (omega arith, (omega arith, omega arith)) (omega arith, (omega arith, tt))
    (omega arith, (omega arith, tt)) (λ e. let h = ap rip_in e in omega arith)

-- of two machine frames only the last is undone
abbrev two_frames : Arrays
two_frames = alone (array 0 0 2 (code 2 (PushMachineFrame false) ∷ code 1 (PushMachineFrame false) ∷ []))

pub one_frame_needed : Broken 1 two_frames (at 2)
unfolding joined_of undone_of unwind_of undo_from undo_of last_step word_at
one_frame_needed =
    broken 1 two_frames (at 2) refl (tt, (tt, tt)) (omega arith, (omega arith, omega arith)) (omega arith, (omega arith, tt))
    (omega arith, (omega arith, tt)) (λ e. let h = ap (general_in 4) e in omega arith)

-- ---- 2. offsets: a save whose offset is below that of the allocation that it lies in runs before it

abbrev save_early : Arrays
save_early = alone (array 0 0 4 (code 1 (SaveNonVolatile (general 3) (RSP 0)) ∷ code 4 (Alloc 8) ∷ []))

pub offsets_needed : Broken 2 save_early (at 2)
unfolding joined_of undone_of unwind_of undo_from undo_of last_step word_at
offsets_needed =
    broken 2 save_early (at 2) refl (omega arith, (tt, tt)) (omega arith, omega arith) (omega arith, (omega arith, tt))
    (omega arith, (omega arith, tt)) (λ e. let h = ap rip_in e in omega arith)

-- ---- 3. prolog size: at a distance past it, an allocation whose offset is above it has run, and is not undone

abbrev late_allocation : Arrays
late_allocation = alone (array 0 0 1 (code 4 (Alloc 8) ∷ []))

abbrev late_stop : Machine
late_stop = run called (joined_of late_allocation) (machine_at 0x1000)

pub prolog_size_needed : Breaks 3 late_allocation (at 1) called (machine_at 0x1000) late_stop (around late_stop)
unfolding joined_of undone_of unwind_of undo_from undo_of last_step word_at
prolog_size_needed =
    record {
      others = refl;
      small = (tt, tt);
      reaches =
          record {
            sized = sized 0x1000;
            entered = tt;
            stop =
                after (omega arith) (record { general = refl; xmm = refl })
                (record {
                  free =
                      record { frame_register_of = λ _. refl; stack_pointer = λ _. refl; words_written = tt; words_of_entry = (refl, tt) };
                  general = λ r _ _. refl;
                  xmm = λ x _. (refl, refl);
                });
            fits = omega arith;
          };
      aligned = refl;
      spans = spanning late_stop.memory 0xF00 64 (0x1000 ∷ []) refl (omega arith, tt) (omega arith, tt);
      wrong = λ e. let h = ap rip_in e in omega arith;
    }

-- ---- 5. kinds: a save of half an XMM register does not keep the other half

abbrev half_saved : Arrays
half_saved = alone (array 0 0 8 (code 8 (SaveXMM (xmm 6) (RSP 0)) ∷ code 4 (Alloc 8) ∷ []))

abbrev half_prolog : Machine
half_prolog = run called (joined_of half_saved) (machine_at 0x1000)

-- the body changes both halves
abbrev half_stop : Machine
half_stop = with_registers half_prolog (with_xmm half_prolog.registers 6 77 78)

pub kinds_needed : Breaks 5 half_saved whole called (machine_at 0x1000) half_stop (around half_stop)
unfolding joined_of undone_of unwind_of undo_from undo_of last_step word_at
kinds_needed =
    record {
      others = refl;
      small = (omega arith, (tt, tt));
      reaches =
          record {
            sized = sized 0x1000;
            entered = tt;
            stop =
                after tt (record { general = refl; xmm = refl })
                (record {
                  free =
                      record { frame_register_of = λ _. refl; stack_pointer = λ _. refl; words_written = (refl, tt); words_of_entry = (refl, tt) };
                  general = λ r _ _. refl;
                  xmm =
                      λ x k. (word (2 * x) (λ e. k.0 (omega arith)) (λ e. omega arith), word (2 * x + 1) (λ e. omega arith) (λ e. k.0 (omega arith)));
                });
            fits = (omega arith, (omega arith, omega arith));
          };
      aligned = refl;
      spans = spanning half_stop.memory 0xF00 64 (0xFF8 ∷ 0x1000 ∷ []) refl (omega arith, (omega arith, tt)) (omega arith, (omega arith, tt));
      wrong = λ e. let h = ap (xmm_in 13) e in omega arith;
    }
  where
    word : (j : ℕ) → j ≢ 12 → j ≢ 13 → get_or half_stop.registers.xmm j 0 ≡ get_or half_prolog.registers.xmm j 0
    word j a b = get_or-set_other (set half_prolog.registers.xmm 12 77) 13 j 78 0 b ∙ get_or-set_other half_prolog.registers.xmm 12 j 77 0 a

-- ---- 6. agreement: a save goes by the frame register of its own info, which the other info did not set

abbrev apart_frames : Arrays
apart_frames =
    record {
      found = array 5 0 1 (code 1 (SaveNonVolatile (general 6) (FP 0)) ∷ []);
      outer =
          array 3 0 9 (code 9 SetFPRegister ∷ code 8 (Alloc 8) ∷ code 2 (PushNonVolatile (general 3)) ∷ code 1 (PushNonVolatile (general 5)) ∷ [])
          ∷ [];
    }

pub agreement_needed : Broken 6 apart_frames (at 1)
unfolding joined_of undone_of unwind_of undo_from undo_of last_step word_at
agreement_needed =
    broken 6 apart_frames (at 1) refl (omega arith, (tt, (tt, (omega arith, (omega arith, tt)))))
    (omega arith, (omega arith, (omega arith, (omega arith, (omega arith, omega arith)))))
    (omega arith, (omega arith, (omega arith, (omega arith, tt)))) (omega arith, (omega arith, (omega arith, (omega arith, tt))))
    (λ e. let h = ap rip_in e in omega arith)

-- ---- 8. a frame register is named exactly where there is a set frame

-- named, and not set: a save goes by it
abbrev never_set : Arrays
never_set = alone (array 5 0 9 (code 9 (SaveNonVolatile (general 3) (FP 0)) ∷ code 4 (Alloc 8) ∷ code 1 (PushNonVolatile (general 5)) ∷ []))

pub set_needed : Broken 8 never_set (at 9)
unfolding joined_of undone_of unwind_of undo_from undo_of last_step word_at
set_needed =
    broken 8 never_set (at 9) refl (omega arith, (tt, (omega arith, tt))) (omega arith, (omega arith, (omega arith, omega arith)))
    (omega arith, (omega arith, (omega arith, tt))) (omega arith, (omega arith, (omega arith, tt)))
    (λ e. let h = ap rip_in e in omega arith)

-- set, and not named: register 0 is set and not kept
abbrev never_named : Arrays
never_named = alone (array 0 0 1 (code 1 SetFPRegister ∷ []))

pub named_needed : Broken 8 never_named (at 1)
unfolding joined_of undone_of unwind_of undo_from undo_of last_step word_at
named_needed =
    broken 8 never_named (at 1) refl (tt, tt) (omega arith, omega arith) (omega arith, tt) (omega arith, tt)
    (λ e. let h = ap (general_in 0) e in omega arith)

-- ---- 9. pushed before: a frame register that is not kept is lost

abbrev never_pushed : Arrays
never_pushed = alone (array 5 0 3 (code 3 SetFPRegister ∷ []))

pub pushed_needed : Broken 9 never_pushed (at 3)
unfolding joined_of undone_of unwind_of undo_from undo_of last_step word_at
pushed_needed =
    broken 9 never_pushed (at 3) refl (tt, tt) (omega arith, omega arith) (omega arith, tt) (omega arith, tt)
    (λ e. let h = ap (general_in 5) e in omega arith)

-- ---- 10. RSP: a push of it is undone to RSP and then 8 more

abbrev rsp_pushed : Arrays
rsp_pushed = alone (array 0 0 1 (code 1 (PushNonVolatile (general 4)) ∷ []))

pub rsp_needed : Broken 10 rsp_pushed (at 1)
unfolding joined_of undone_of unwind_of undo_from undo_of last_step word_at
rsp_needed =
    broken 10 rsp_pushed (at 1) refl (omega arith, tt) (omega arith, omega arith) (omega arith, (omega arith, tt)) (omega arith, (omega arith, tt))
    (λ e. let h = ap rip_in e in omega arith)

-- ---- 11. alignment: a window that spans a place between two of its words does not hold it

abbrev between : Arrays
between = alone (array 0 0 8 (code 8 (SaveNonVolatile (general 3) (RSP 4)) ∷ code 4 (Alloc 16) ∷ []))

pub alignment_needed : Broken 11 between (at 8)
unfolding joined_of undone_of unwind_of undo_from undo_of last_step word_at
alignment_needed =
    broken 11 between (at 8) refl (omega arith, (tt, tt)) (omega arith, (omega arith, omega arith)) (omega arith, (omega arith, tt))
    (omega arith, (omega arith, tt)) (λ e. let h = ap rip_in e in omega arith)

-- and so it is with an allocation that is no multiple of 8
abbrev odd_allocation : Arrays
odd_allocation = alone (array 0 0 8 (code 8 (SaveNonVolatile (general 3) (RSP 0)) ∷ code 4 (Alloc 12) ∷ []))

pub allocation_alignment_needed : Broken 11 odd_allocation (at 8)
unfolding joined_of undone_of unwind_of undo_from undo_of last_step word_at
allocation_alignment_needed =
    broken 11 odd_allocation (at 8) refl (omega arith, (tt, tt)) (omega arith, (omega arith, omega arith)) (omega arith, (omega arith, tt))
    (omega arith, (omega arith, tt)) (λ e. let h = ap rip_in e in omega arith)

-- ---- 12. places apart: of two saves at one place the first is lost

abbrev one_place : Arrays
one_place =
    alone
    (array 0 0 9 (code 9 (SaveNonVolatile (general 6) (RSP 0)) ∷ code 8 (SaveNonVolatile (general 3) (RSP 0)) ∷ code 4 (Alloc 8) ∷ []))

pub apart_needed : Broken 12 one_place (at 9)
unfolding joined_of undone_of unwind_of undo_from undo_of last_step word_at
apart_needed =
    broken 12 one_place (at 9) refl (omega arith, (omega arith, (tt, tt))) (omega arith, (omega arith, (omega arith, omega arith)))
    (omega arith, (omega arith, (omega arith, tt))) (omega arith, (omega arith, (omega arith, tt)))
    (λ e. let h = ap (general_in 3) e in omega arith)

-- ---- 13. places inside

-- a save past the allocation overwrites the return address
abbrev past_allocation : Arrays
past_allocation = alone (array 0 0 5 (code 5 (SaveNonVolatile (general 3) (RSP 8)) ∷ code 4 (Alloc 8) ∷ []))

pub inside_needed : Broken 13 past_allocation (at 5)
unfolding joined_of undone_of unwind_of undo_from undo_of last_step word_at
inside_needed =
    broken 13 past_allocation (at 5) refl (omega arith, (tt, tt)) (omega arith, (omega arith, omega arith)) (omega arith, (omega arith, tt))
    (omega arith, (omega arith, tt)) (λ e. let h = ap rip_in e in omega arith)

-- with a machine frame there is no room above it: here RSP in the frame is overwritten
abbrev on_frame : Arrays
on_frame =
    alone (array 0 0 5 (code 5 (SaveNonVolatile (general 3) (RSP 32)) ∷ code 4 (Alloc 8) ∷ code 2 (PushMachineFrame false) ∷ []))

pub no_home_needed : Broken 13 on_frame (at 5)
unfolding joined_of undone_of unwind_of undo_from undo_of last_step word_at
no_home_needed =
    broken 13 on_frame (at 5) refl (omega arith, (tt, (tt, tt))) (omega arith, (omega arith, (omega arith, omega arith)))
    (omega arith, (omega arith, (omega arith, tt))) (omega arith, (omega arith, (omega arith, tt)))
    (λ e. let h = ap (general_in 4) e in omega arith)
