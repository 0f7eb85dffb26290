-- A small machine that runs prologs: what each unwind operation stands for when it runs, over the registers and the memory. Addresses do
-- not wrap here: `Stop` says when none leaves 64 bits.
-- Assumes nothing.
use Rattle.std.specs.Prelude.{ℕ, ◌+◌, ◌-◌, ◌*◌, List, [], ◌∷◌, Bool, true, false, get_or, eqb}
use Rattle.answer.specs.Test.{pick}
use Rattle.unwind_operation.specs.declared.UnwindOperation.{UnwindOperation}
use Rattle.unwind_operation.specs.declared.UnwindOperation.TheVariants.{PushNonVolatile, Alloc, SetFPRegister, SaveNonVolatile, SaveXMM}
use Rattle.unwind_operation.specs.declared.UnwindOperation.TheVariants.{Epilog, SaveXMM128, PushMachineFrame, Noop}
use Rattle.unwind_array.specs.Arrays.{Frame, ChainCode}
use Rattle.unwind_state.specs.State.{gpr, rsp, with_gpr, with_rsp}
use Rattle.unwind_state.specs.declared.State.{State}
use Rattle.unwind_undo.specs.Undo.{place_of, xmm_number}

-- 18.1: the word of 64 bits at each address; the words that a strict prolog touches lie at multiples of 8 from one another
abbrev pub Memory : Type 0
Memory = ℕ → ℕ

-- 18.1: Registers and memory, and four words that a machine frame takes up and that no operation changes: SS, RFLAGS, CS, and the error code.
pub record Machine : Type 0 where
  pub registers : State
  pub memory : Memory
  pub ss : ℕ
  pub rflags : ℕ
  pub cs : ℕ
  pub error : ℕ

abbrev pub rsp_of : Machine → ℕ
rsp_of m = rsp m.registers

abbrev pub with_registers : Machine → State → Machine
with_registers m s = record { registers = s; memory = m.memory; ss = m.ss; rflags = m.rflags; cs = m.cs; error = m.error }

-- the memory with another word at an address
abbrev pub write : Memory → ℕ → ℕ → Memory
write mem a v x = pick (eqb x a) v (mem x)

abbrev pub with_word : Machine → ℕ → ℕ → Machine
with_word m a v =
    record {
      registers = m.registers;
      memory = write m.memory a v;
      ss = m.ss;
      rflags = m.rflags;
      cs = m.cs;
      error = m.error;
    }

-- RSP takes a value
abbrev pub move_rsp : ℕ → Machine → Machine
move_rsp a m = with_registers m (with_rsp m.registers a)

-- a word is pushed: RSP falls by 8, and the word lies at RSP
abbrev pub push_word : ℕ → Machine → Machine
push_word v m = with_word (move_rsp (rsp_of m - 8) m) (rsp_of m - 8) v

-- a word is put so far above RSP
abbrev pub put_word : ℕ → ℕ → Machine → Machine
put_word n v m = with_word m (rsp_of m + n) v

-- the words of an XMM register
abbrev pub xmm_low : Machine → ℕ → ℕ
xmm_low m n = get_or m.registers.xmm (2 * n) 0

abbrev pub xmm_high : Machine → ℕ → ℕ
xmm_high m n = get_or m.registers.xmm (2 * n + 1) 0

-- 18.2, 18.8: How a prolog is entered: by a call, with the return address at RSP; or by the processor, which has pushed a machine frame itself, on
-- this stack or another, with an error code below it or without.
pub data Entry : Type 0 where
  called : Entry
  interrupted : Bool → Entry

-- the bytes of an error code, if there is one
abbrev pub error_bytes : Bool → ℕ
error_bytes code = pick code 8 0

abbrev pub push_error : Bool → Machine → Machine
push_error true m = push_word m.error m
push_error false m = m

-- 18.6, 18.8: A machine frame: the return address is popped; SS, RSP as it is then, RFLAGS, CS and the return address are pushed, then an error code.
-- Where the processor pushed the frame before entry, nothing is left to do.
abbrev pub push_frame : Entry → Bool → Machine → Machine
push_frame called code m =
    push_error code
    (push_word (m.memory (rsp_of m))
    (push_word m.cs (push_word m.rflags (push_word (rsp_of m + 8) (push_word m.ss (move_rsp (rsp_of m + 8) m))))))
push_frame (interrupted found) code m = m

-- What an operation does when it runs, by the frame of its info.
abbrev pub run_one : Entry → Frame → UnwindOperation → Machine → Machine
-- 18.3: a push: RSP falls by 8, and the register lies at RSP
run_one entry f (PushNonVolatile r) m = push_word (gpr m.registers r.0) m
-- 18.3: an alloc: RSP falls by its size
run_one entry f (Alloc n) m = move_rsp (rsp_of m - n) m
-- 18.4: a set frame: the frame register is RSP and the frame offset
run_one entry f SetFPRegister m = with_registers m (with_gpr m.registers f.register (rsp_of m + f.offset))
-- 18.5: a save: the register lies at its place above RSP
run_one entry f (SaveNonVolatile r o) m = put_word (place_of o) (gpr m.registers r.0) m
-- a save of the low half of an XMM register
run_one entry f (SaveXMM r o) m = put_word (place_of o) (xmm_low m (xmm_number r)) m
-- an epilog stands elsewhere in the code
run_one entry f (Epilog x y) m = m
-- 18.5: a save of an XMM register: two words, the low one at the lower address
run_one entry f (SaveXMM128 r o) m =
    with_word (put_word (place_of o) (xmm_low m (xmm_number r)) m) (rsp_of m + place_of o + 8) (xmm_high m (xmm_number r))
-- 18.6: a machine frame
run_one entry f (PushMachineFrame code) m = push_frame entry code m
-- without effect
run_one entry f Noop m = m

-- codes in array order: the last of the prolog stands first
abbrev pub run : Entry → List ChainCode → Machine → Machine
run entry [] m = m
run entry (c ∷ cs) m = run_one entry c.frame c.code.operation (run entry cs m)

-- 19.7, 19.8, 19.9: The caller of a function: its registers are those at entry, but for RIP and RSP. After a call RIP is the return address, and RSP lies
-- above that. In a machine frame RIP is the lowest word but for an error code, and RSP lies 24 above it.
abbrev pub caller_of : Entry → Machine → State
caller_of called m = record { gpr = (with_rsp m.registers (rsp_of m + 8)).gpr; rip = m.memory (rsp_of m); xmm = m.registers.xmm }
caller_of (interrupted code) m =
    record {
      gpr = (with_rsp m.registers (m.memory (rsp_of m + error_bytes code + 24))).gpr;
      rip = m.memory (rsp_of m + error_bytes code);
      xmm = m.registers.xmm;
    }
