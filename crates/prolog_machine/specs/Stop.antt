-- A stop: inside a prolog at a distance, or after the whole prolog and a body; what a body may change; which stack words tell the caller;
-- and when no address leaves 64 bits. All is said of the machine's run.
-- Assumes nothing.
use Rattle.std.specs.Prelude.{ℕ, ◌+◌, ◌-◌, ◌*◌, ◌%◌, ◌^◌, ◌≤◌, ◌<◌, ◌≡◌, ◌≢◌, ◌⊎◌, List, [], ◌∷◌, ◌++◌, Bool, true, false, Some, length, get_or, leb}
use Rattle.answer.specs.Test.{pick}
use Rattle.unwind_operation.specs.declared.UnwindOperation.{UnwindOperation}
use Rattle.unwind_operation.specs.declared.UnwindOperation.TheVariants.{PushNonVolatile, Alloc, SetFPRegister, SaveNonVolatile, SaveXMM}
use Rattle.unwind_operation.specs.declared.UnwindOperation.TheVariants.{Epilog, SaveXMM128, PushMachineFrame, Noop}
use Rattle.unwind_array.specs.Arrays.{Frame, Arrays, ChainCode, codes_in, outer_codes, joined_of}
use Rattle.unwind_state.specs.State.{gpr, Window, word_at}
use Rattle.unwind_state.specs.declared.State.{State}
use Rattle.unwind_undo.specs.Undo.{place_of, xmm_number}
use Rattle.unwind_undo.specs.Distance.{Distance, at, whole}
use Rattle.prolog_machine.specs.Machine.{Memory, Machine, rsp_of, Entry, called, interrupted, error_bytes, push_frame, run}

-- ---- lists

-- it holds of every element
abbrev pub Every : (ℕ → Type 0) → List ℕ → Type 0
Every P [] = Unit {0}
Every P (x ∷ xs) = P x × Every P xs

abbrev pub In : ℕ → List ℕ → Type 0
In x [] = ⊥
In x (y ∷ ys) = (x ≡ y) ⊎ In x ys

abbrev pub NotIn : ℕ → List ℕ → Type 0
NotIn x [] = Unit {0}
NotIn x (y ∷ ys) = (x ≢ y) × NotIn x ys

-- ---- registers

-- 16 general registers and 16 XMM registers of two words
pub record Sized (s : State) : Type 0 where
  pub general : length s.gpr ≡ 16
  pub xmm : length s.xmm ≡ 32

-- the registers of an operation are among those, as they are in every list that was decoded
abbrev pub SmallOperation : UnwindOperation → Type 0
SmallOperation (PushNonVolatile r) = r.0 < 16
SmallOperation (Alloc n) = Unit {0}
SmallOperation SetFPRegister = Unit {0}
SmallOperation (SaveNonVolatile r o) = r.0 < 16
SmallOperation (SaveXMM r o) = xmm_number r < 16
SmallOperation (Epilog x y) = Unit {0}
SmallOperation (SaveXMM128 r o) = xmm_number r < 16
SmallOperation (PushMachineFrame code) = Unit {0}
SmallOperation Noop = Unit {0}

abbrev pub Small : List ChainCode → Type 0
Small [] = Unit {0}
Small (c ∷ cs) = SmallOperation c.code.operation × Small cs

-- ---- what has run at a distance

-- the address lies at or past the end of the instruction that a code stands for
abbrev pub reached : Distance → ℕ → Bool
reached (at d) offset = leb offset d
reached whole offset = true

abbrev pub up_to : Distance → List ChainCode → List ChainCode
up_to d [] = []
up_to d (c ∷ cs) = pick (reached d c.code.code_offset) (c ∷ up_to d cs) (up_to d cs)

-- 18.9: of the found info the codes whose offset is at most the distance, and all codes of the infos that it is chained to
abbrev pub ran_of : Distance → Arrays → List ChainCode
ran_of d a = up_to d (codes_in true a.found) ++ outer_codes a.outer

-- 18.10: the distance is at or past the prolog size
abbrev pub PastProlog : Distance → ℕ → Type 0
PastProlog (at d) size = size ≤ d
PastProlog whole size = Unit {0}

-- ---- which words

-- the words that tell the caller, from the machine before an operation and those of the operations before it: a pushed word, a save's word
-- or words; and in a machine frame RIP and RSP, which stand for all that was before
abbrev pub needed_with : Entry → UnwindOperation → Machine → List ℕ → List ℕ
needed_with entry (PushNonVolatile r) p more = (rsp_of p - 8) ∷ more
needed_with entry (Alloc n) p more = more
needed_with entry SetFPRegister p more = more
needed_with entry (SaveNonVolatile r o) p more = (rsp_of p + place_of o) ∷ more
needed_with entry (SaveXMM r o) p more = (rsp_of p + place_of o) ∷ more
needed_with entry (Epilog x y) p more = more
needed_with entry (SaveXMM128 r o) p more = (rsp_of p + place_of o) ∷ (rsp_of p + place_of o + 8) ∷ more
needed_with entry (PushMachineFrame code) p more =
    (rsp_of (push_frame entry code p) + error_bytes code) ∷ (rsp_of (push_frame entry code p) + error_bytes code + 24) ∷ []
needed_with entry Noop p more = more

-- 19.6: the words that tell the caller once codes have run: theirs, and the return address
abbrev pub needed : Entry → List ChainCode → Machine → List ℕ
needed entry [] m = rsp_of m ∷ []
needed entry (c ∷ cs) m = needed_with entry c.code.operation (run entry cs m) (needed entry cs m)

-- a machine frame from its lowest word up: an error code, RIP, CS, RFLAGS, RSP, SS
abbrev pub frame_words : Bool → ℕ → List ℕ
frame_words true a = a ∷ (a + 8) ∷ (a + 16) ∷ (a + 24) ∷ (a + 32) ∷ (a + 40) ∷ []
frame_words false a = a ∷ (a + 8) ∷ (a + 16) ∷ (a + 24) ∷ (a + 32) ∷ []

-- the words that an operation writes
abbrev pub written_by : Entry → UnwindOperation → Machine → List ℕ
written_by entry (PushNonVolatile r) p = (rsp_of p - 8) ∷ []
written_by entry (Alloc n) p = []
written_by entry SetFPRegister p = []
written_by entry (SaveNonVolatile r o) p = (rsp_of p + place_of o) ∷ []
written_by entry (SaveXMM r o) p = (rsp_of p + place_of o) ∷ []
written_by entry (Epilog x y) p = []
written_by entry (SaveXMM128 r o) p = (rsp_of p + place_of o) ∷ (rsp_of p + place_of o + 8) ∷ []
written_by called (PushMachineFrame code) p = frame_words code (rsp_of (push_frame called code p))
written_by (interrupted found) (PushMachineFrame code) p = []
written_by entry Noop p = []

abbrev pub written : Entry → List ChainCode → Machine → List ℕ
written entry [] m = []
written entry (c ∷ cs) m = written_by entry c.code.operation (run entry cs m) ++ written entry cs m

-- the words that were there at entry: the return address, or the processor's machine frame
abbrev pub entry_words : Entry → Machine → List ℕ
entry_words called m = rsp_of m ∷ []
entry_words (interrupted code) m = frame_words code (rsp_of m)

-- ---- no address leaves 64 bits

-- 19.4: RSP never falls below 0; the frame register and the places of saves stay below 2^64
abbrev pub FitsOne : Entry → Frame → UnwindOperation → Machine → Type 0
FitsOne entry f (PushNonVolatile r) p = 8 ≤ rsp_of p
FitsOne entry f (Alloc n) p = n ≤ rsp_of p
FitsOne entry f SetFPRegister p = rsp_of p + f.offset < 2 ^ 64
FitsOne entry f (SaveNonVolatile r o) p = rsp_of p + place_of o < 2 ^ 64
FitsOne entry f (SaveXMM r o) p = rsp_of p + place_of o < 2 ^ 64
FitsOne entry f (Epilog x y) p = Unit {0}
FitsOne entry f (SaveXMM128 r o) p = rsp_of p + place_of o + 8 < 2 ^ 64
FitsOne called f (PushMachineFrame code) p = 32 + error_bytes code ≤ rsp_of p
FitsOne (interrupted found) f (PushMachineFrame code) p = Unit {0}
FitsOne entry f Noop p = Unit {0}

-- RSP above the return address does too, and so does the place of RSP in a machine frame
abbrev pub FitsEntry : Entry → Machine → Type 0
FitsEntry called m = rsp_of m + 8 < 2 ^ 64
FitsEntry (interrupted code) m = rsp_of m + error_bytes code + 24 < 2 ^ 64

abbrev pub Fits : Entry → List ChainCode → Machine → Type 0
Fits entry [] m = FitsEntry entry m
Fits entry (c ∷ cs) m = FitsOne entry c.frame c.code.operation (run entry cs m) × Fits entry cs m

-- ---- entry

-- whether each machine frame among codes has an error code
abbrev pub machine_frame : UnwindOperation → List Bool → List Bool
machine_frame (PushNonVolatile r) more = more
machine_frame (Alloc n) more = more
machine_frame SetFPRegister more = more
machine_frame (SaveNonVolatile r o) more = more
machine_frame (SaveXMM r o) more = more
machine_frame (Epilog x y) more = more
machine_frame (SaveXMM128 r o) more = more
machine_frame (PushMachineFrame code) more = code ∷ more
machine_frame Noop more = more

abbrev pub machine_frames : List ChainCode → List Bool
machine_frames [] = []
machine_frames (c ∷ cs) = machine_frame c.code.operation (machine_frames cs)

-- 18.8: a prolog that the processor entered has a machine frame, of the form that the processor pushed, and the stop is at or past its offset
abbrev pub Entered : Entry → List ChainCode → Type 0
Entered called cs = Unit {0}
Entered (interrupted code) cs = machine_frames cs ≡ code ∷ []

-- ---- a body

-- the general registers that codes push or save
abbrev pub keeps_general : UnwindOperation → List ℕ → List ℕ
keeps_general (PushNonVolatile r) more = r.0 ∷ more
keeps_general (Alloc n) more = more
keeps_general SetFPRegister more = more
keeps_general (SaveNonVolatile r o) more = r.0 ∷ more
keeps_general (SaveXMM r o) more = more
keeps_general (Epilog x y) more = more
keeps_general (SaveXMM128 r o) more = more
keeps_general (PushMachineFrame code) more = more
keeps_general Noop more = more

abbrev pub general_kept : List ChainCode → List ℕ
general_kept [] = []
general_kept (c ∷ cs) = keeps_general c.code.operation (general_kept cs)

-- the XMM registers that they save, by number
abbrev pub keeps_xmm : UnwindOperation → List ℕ → List ℕ
keeps_xmm (PushNonVolatile r) more = more
keeps_xmm (Alloc n) more = more
keeps_xmm SetFPRegister more = more
keeps_xmm (SaveNonVolatile r o) more = more
keeps_xmm (SaveXMM r o) more = xmm_number r ∷ more
keeps_xmm (Epilog x y) more = more
keeps_xmm (SaveXMM128 r o) more = xmm_number r ∷ more
keeps_xmm (PushMachineFrame code) more = more
keeps_xmm Noop more = more

abbrev pub xmm_kept : List ChainCode → List ℕ
xmm_kept [] = []
xmm_kept (c ∷ cs) = keeps_xmm c.code.operation (xmm_kept cs)

abbrev pub SameWord : Machine → Machine → ℕ → Type 0
SameWord n p x = n.memory x ≡ p.memory x

-- both words of an XMM register
abbrev pub SameXmm : State → State → ℕ → Type 0
SameXmm s t x = (get_or s.xmm (2 * x) 0 ≡ get_or t.xmm (2 * x) 0) × (get_or s.xmm (2 * x + 1) 0 ≡ get_or t.xmm (2 * x + 1) 0)

-- 18.12, 18.13, 18.14: What every body leaves as the prolog left it. The codes `cs` ran from the machine `m` at entry to `p`; `n` is at the stop.
pub record FreeBody (entry : Entry) (cs : List ChainCode) (frame : Frame) (m p n : Machine) : Type 0 where
  -- the frame register, where there is one
  pub frame_register_of : frame.register ≢ 0 → gpr n.registers frame.register ≡ gpr p.registers frame.register
  -- RSP, where there is none
  pub stack_pointer : frame.register ≡ 0 → rsp_of n ≡ rsp_of p
  -- each word that the prolog wrote
  pub words_written : Every (SameWord n p) (written entry cs m)
  -- the return address, or the machine frame that the processor pushed
  pub words_of_entry : Every (SameWord n p) (entry_words entry m)

-- 18.12, 18.15: A body that changes of the registers only what the prolog kept for the caller.
pub record Body (entry : Entry) (cs : List ChainCode) (frame : Frame) (m p n : Machine) : Type 0 where
  pub free : FreeBody entry cs frame m p n
  -- each general register that no code pushes or saves, RSP aside
  pub general : (r : ℕ) → r ≢ 4 → NotIn r (general_kept cs) → gpr n.registers r ≡ gpr p.registers r
  -- each XMM register that no code saves
  pub xmm : (x : ℕ) → NotIn x (xmm_kept cs) → SameXmm n.registers p.registers x

-- ---- a stop

-- one machine is the other, but for RIP
pub record Same (n p : Machine) : Type 0 where
  pub general : n.registers.gpr ≡ p.registers.gpr
  pub xmm : n.registers.xmm ≡ p.registers.xmm
  pub memory : (x : ℕ) → SameWord n p x

-- 18.11: A function that was entered at `m` is stopped at `n`: inside its prolog, at a distance; or at or past the end of the prolog, after a body.
pub data Stop (entry : Entry) (a : Arrays) (d : Distance) (m n : Machine) : Type 0 where
  inside : Same n (run entry (ran_of d a) m) → Stop entry a d m n
  after :
      PastProlog d a.found.prolog
      → Sized n.registers
      → Body entry (joined_of a) a.found.frame m (run entry (joined_of a) m) n
      → Stop entry a d m n

-- A stop as it is in real code, where registers change too that no code pushes or saves: after the prolog and any body; or inside the prolog,
-- whose other instructions leave what a body leaves, and RSP as the codes left it.
pub data FreeStop (entry : Entry) (a : Arrays) (d : Distance) (m n : Machine) : Type 0 where
  free_inside :
      Sized n.registers
      → rsp_of n ≡ rsp_of (run entry (ran_of d a) m)
      → FreeBody entry (ran_of d a) a.found.frame m (run entry (ran_of d a) m) n
      → FreeStop entry a d m n
  free_after :
      PastProlog d a.found.prolog
      → Sized n.registers
      → FreeBody entry (joined_of a) a.found.frame m (run entry (joined_of a) m) n
      → FreeStop entry a d m n

-- A function that was entered at `m` is stopped at `n`, with all that must hold of its run.
pub record Reaches (entry : Entry) (a : Arrays) (d : Distance) (m n : Machine) : Type 0 where
  pub sized : Sized m.registers
  pub entered : Entered entry (ran_of d a)
  pub stop : Stop entry a d m n
  pub fits : Fits entry (ran_of d a) m

-- ---- windows

-- a window holds words of a memory
abbrev pub Holds : Window → Memory → List ℕ → Type 0
Holds w memory xs = Every (λ x. word_at w x ≡ Some (memory x)) xs

-- 19.3: A window as a driver has it: a part of the memory at a multiple of 8 that reaches from the lowest to the highest of some addresses.
pub record Spans (w : Window) (memory : Memory) (xs : List ℕ) : Type 0 where
  pub aligned : w.base % 8 ≡ 0
  pub words : (i : ℕ) → i < length w.words → get_or w.words i 0 ≡ memory (w.base + 8 * i)
  pub low : Every (λ x. w.base ≤ x) xs
  pub high : Every (λ x. x < w.base + 8 * length w.words) xs
