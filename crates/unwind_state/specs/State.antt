-- The registers at a stop, and the window of stack words that is lent beside them.
-- Assumes nothing.
use Rattle.std.specs.Prelude.{Option, Some, None, ℕ, ◌+◌, ◌-◌, ◌*◌, ◌/◌, ◌%◌, List, Bool, ◌&&◌, length, get_or, set, leb, ltb, eqb}
use Rattle.answer.specs.Test.{pick}
use Rattle.unwind_state.specs.declared.State.{State}

-- 16.2: a general register
abbrev pub gpr : State → ℕ → ℕ
gpr s r = get_or s.gpr r 0

-- 16.2: RSP is general register 4
abbrev pub rsp : State → ℕ
rsp s = gpr s 4

-- the registers with another value of one; a number past the last changes nothing
abbrev pub with_gpr : State → ℕ → ℕ → State
with_gpr s r v = record { gpr = set s.gpr r v; rip = s.rip; xmm = s.xmm }

abbrev pub with_rsp : State → ℕ → State
with_rsp s a = with_gpr s 4 a

abbrev pub with_rip : State → ℕ → State
with_rip s v = record { gpr = s.gpr; rip = v; xmm = s.xmm }

-- 16.2: the low word of XMM register `n` is word `2 * n`, the high one the word after it
abbrev pub with_xmm_low : State → ℕ → ℕ → State
with_xmm_low s n v = record { gpr = s.gpr; rip = s.rip; xmm = set s.xmm (2 * n) v }

-- 16.2, 16.21: both words of it
abbrev pub with_xmm : State → ℕ → ℕ → ℕ → State
with_xmm s n low high = record { gpr = s.gpr; rip = s.rip; xmm = set (set s.xmm (2 * n) low) (2 * n + 1) high }

-- 16.5: stack words of 64 bits, the first at `base`, each 8 bytes above the one before
pub record Window : Type 0 where
  pub base : ℕ
  pub words : List ℕ

-- 16.6, 16.7: whether it has a word there: the window and the address are at multiples of 8, and the word is one of its words
abbrev pub holds : Window → ℕ → Bool
holds w a = eqb (w.base % 8) 0 && (eqb (a % 8) 0 && (leb w.base a && ltb ((a - w.base) / 8) (length w.words)))

-- 16.5: that word, if it has one
unfoldable pub word_at : Window → ℕ → Option ℕ
word_at w a = pick (holds w a) (Some (get_or w.words ((a - w.base) / 8) 0)) None
