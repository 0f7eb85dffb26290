-- A prolog as a list of acts, in array order: the codes of a strict chain without those that do nothing, over one frame. What acts come to
-- when they run, and the form of a strict list that holds of every later part of it.
-- Assumes nothing.
use mathlib.Core.Path.{◌≡◌, refl}
use mathlib.Core.Logic.{◌≢◌, ◌⊎◌}
use mathlib.Core.Bool.{Bool, true, false}
use mathlib.Core.List.{List, [], ◌∷◌}
use Prim.Native.Nat.{ℕ, ◌+◌, ◌-◌, ◌*◌, ◌^◌, ◌≤◌, ◌<◌}
use native.Mathlib.Omega.{arith}
use lib.ListN.{length, length-set}
use lib.Seq.{get_or-set_same}
use borrow.Author.Tests.{eq-eqb, ne_eqb}
use Rattle.unwind_array.specs.Arrays.{Frame}
use Rattle.unwind_state.specs.State.{gpr, with_gpr}
use Rattle.prolog_machine.specs.Machine.{Memory, Machine, rsp_of, with_registers, write, with_word, move_rsp, push_word}
use Rattle.prolog_machine.specs.Machine.{put_word, xmm_low, xmm_high, Entry, called, interrupted, error_bytes, push_frame}
use Rattle.prolog_machine.specs.Stop.{NotIn, FitsEntry}

pub data Act : Type 0 where
  push : ℕ → Act
  alloc : ℕ → Act
  frame : Act
  save : ℕ → ℕ → Act
  save_xmm : ℕ → ℕ → Act
  trap : Bool → Act

abbrev pub act : Entry → Frame → Act → Machine → Machine
act entry f (push r) m = push_word (gpr m.registers r) m
act entry f (alloc n) m = move_rsp (rsp_of m - n) m
act entry f frame m = with_registers m (with_gpr m.registers f.register (rsp_of m + f.offset))
act entry f (save r o) m = put_word o (gpr m.registers r) m
act entry f (save_xmm x o) m = with_word (put_word o (xmm_low m x) m) (rsp_of m + o + 8) (xmm_high m x)
act entry f (trap e) m = push_frame entry e m

abbrev pub acts : Entry → Frame → List Act → Machine → Machine
acts entry f [] m = m
acts entry f (c ∷ cs) m = act entry f c (acts entry f cs m)

-- ---- what acts that have run come to

-- a set frame is among them
abbrev pub framed : List Act → Bool
framed [] = false
framed (push r ∷ cs) = framed cs
framed (alloc n ∷ cs) = framed cs
framed (frame ∷ cs) = true
framed (save r o ∷ cs) = framed cs
framed (save_xmm x o ∷ cs) = framed cs
framed (trap e ∷ cs) = framed cs

-- the general registers that they push or save
abbrev pub owed : List Act → List ℕ
owed [] = []
owed (push r ∷ cs) = r ∷ owed cs
owed (alloc n ∷ cs) = owed cs
owed (frame ∷ cs) = owed cs
owed (save r o ∷ cs) = r ∷ owed cs
owed (save_xmm x o ∷ cs) = owed cs
owed (trap e ∷ cs) = owed cs

-- the words of XMM registers that they save
abbrev pub owed_xmm : List Act → List ℕ
owed_xmm [] = []
owed_xmm (push r ∷ cs) = owed_xmm cs
owed_xmm (alloc n ∷ cs) = owed_xmm cs
owed_xmm (frame ∷ cs) = owed_xmm cs
owed_xmm (save r o ∷ cs) = owed_xmm cs
owed_xmm (save_xmm x o ∷ cs) = 2 * x ∷ (2 * x + 1) ∷ owed_xmm cs
owed_xmm (trap e ∷ cs) = owed_xmm cs

-- the words of save places, above the end of the allocation
abbrev pub places : List Act → List ℕ
places [] = []
places (push r ∷ cs) = places cs
places (alloc n ∷ cs) = places cs
places (frame ∷ cs) = places cs
places (save r o ∷ cs) = o ∷ places cs
places (save_xmm x o ∷ cs) = o ∷ (o + 8) ∷ places cs
places (trap e ∷ cs) = places cs

-- bytes pushed, bytes allocated, and how far a machine frame takes RSP down
abbrev pub pushed : List Act → ℕ
pushed [] = 0
pushed (push r ∷ cs) = pushed cs + 8
pushed (alloc n ∷ cs) = pushed cs
pushed (frame ∷ cs) = pushed cs
pushed (save r o ∷ cs) = pushed cs
pushed (save_xmm x o ∷ cs) = pushed cs
pushed (trap e ∷ cs) = pushed cs

abbrev pub taken : List Act → ℕ
taken [] = 0
taken (push r ∷ cs) = taken cs
taken (alloc n ∷ cs) = taken cs + n
taken (frame ∷ cs) = taken cs
taken (save r o ∷ cs) = taken cs
taken (save_xmm x o ∷ cs) = taken cs
taken (trap e ∷ cs) = taken cs

abbrev pub frame_drop : Entry → Bool → ℕ
frame_drop called e = 32 + error_bytes e
frame_drop (interrupted x) e = 0

abbrev pub dropped : Entry → List Act → ℕ
dropped entry [] = 0
dropped entry (push r ∷ cs) = dropped entry cs
dropped entry (alloc n ∷ cs) = dropped entry cs
dropped entry (frame ∷ cs) = dropped entry cs
dropped entry (save r o ∷ cs) = dropped entry cs
dropped entry (save_xmm x o ∷ cs) = dropped entry cs
dropped entry (trap e ∷ cs) = frame_drop entry e + dropped entry cs

-- the rank of the last that ran
abbrev pub phase : List Act → ℕ
phase [] = 0
phase (push r ∷ cs) = 1
phase (alloc n ∷ cs) = 2
phase (frame ∷ cs) = 3
phase (save r o ∷ cs) = 4
phase (save_xmm x o ∷ cs) = 4
phase (trap e ∷ cs) = 0

-- where the word of a save may lie: in the allocation of A bytes or, with no machine frame, in the 32 bytes above the return address
abbrev pub Place : Bool → ℕ → ℕ → ℕ → Type 0
Place mf K A o = (o + 8 ≤ A) ⊎ ((mf ≡ false) × (K + A + 8 ≤ o) × (o + 8 ≤ K + A + 40))

-- strict, of acts; `mf` is whether the whole chain has a machine frame
abbrev pub Good : ℕ → Bool → List Act → Type 0
Good fr mf [] = Unit {0}
Good fr mf (push r ∷ cs) = (phase cs ≤ 1) × (r ≢ 4) × (r < 16) × Good fr mf cs
Good fr mf (alloc n ∷ cs) = (phase cs ≤ 2) × Good fr mf cs
Good fr mf (frame ∷ cs) = (phase cs ≤ 2) × (¬ NotIn fr (owed cs)) × Good fr mf cs
Good fr mf (save r o ∷ cs) = (r ≢ 4) × (r < 16) × Place mf (pushed cs) (taken cs) o × NotIn o (places cs) × Good fr mf cs
Good fr mf (save_xmm x o ∷ cs) =
    (x < 16)
    × (Place mf (pushed cs) (taken cs) o × Place mf (pushed cs) (taken cs) (o + 8))
    × (NotIn o (places cs) × NotIn (o + 8) (places cs))
    × Good fr mf cs
Good fr mf (trap e ∷ cs) = (cs ≡ []) × (mf ≡ true)

-- no address leaves 64 bits while they run
abbrev pub ActFits : Entry → Frame → Act → Machine → Type 0
ActFits entry f (push r) p = 8 ≤ rsp_of p
ActFits entry f (alloc n) p = n ≤ rsp_of p
ActFits entry f frame p = rsp_of p + f.offset < 2 ^ 64
ActFits entry f (save r o) p = rsp_of p + o < 2 ^ 64
ActFits entry f (save_xmm x o) p = rsp_of p + o + 8 < 2 ^ 64
ActFits called f (trap e) p = 32 + error_bytes e ≤ rsp_of p
ActFits (interrupted x) f (trap e) p = Unit {0}

abbrev pub ActsFit : Entry → Frame → List Act → Machine → Type 0
ActsFit entry f [] m = FitsEntry entry m
ActsFit entry f (c ∷ cs) m = ActFits entry f c (acts entry f cs m) × ActsFit entry f cs m

-- ---- one word

pub write_same : (mem : Memory) (a v : ℕ) → write mem a v a ≡ v
write_same mem a v = rw (eq-eqb a a refl)

pub write_other : (mem : Memory) (a v x : ℕ) → x ≢ a → write mem a v x ≡ mem x
write_other mem a v x h = rw (ne_eqb x a h)

pub push_size : (v : ℕ) (m : Machine) → length (push_word v m).registers.gpr ≡ length m.registers.gpr
push_size v m = length-set m.registers.gpr 4 _

pub push_rsp : (v : ℕ) (m : Machine) → length m.registers.gpr ≡ 16 → rsp_of (push_word v m) ≡ rsp_of m - 8
push_rsp v m l = get_or-set_same m.registers.gpr 4 _ 0 (omega arith)

pub move_rsp_lem : (a : ℕ) (m : Machine) → length m.registers.gpr ≡ 16 → rsp_of (move_rsp a m) ≡ a
move_rsp_lem a m l = get_or-set_same m.registers.gpr 4 _ 0 (omega arith)

pub push_there : (v a : ℕ) (m : Machine) → a ≡ rsp_of m - 8 → (push_word v m).memory a ≡ v
push_there v a m e = rw (eq-eqb a (rsp_of m - 8) e)

pub push_elsewhere : (v a : ℕ) (m : Machine) → a ≢ rsp_of m - 8 → (push_word v m).memory a ≡ m.memory a
push_elsewhere v a m h = rw (ne_eqb a (rsp_of m - 8) h)
