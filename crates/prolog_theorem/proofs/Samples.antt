-- Small chains, machines and windows for cases.
-- Assumes nothing.
use mathlib.Core.List.{List, [], ◌∷◌}
use Prim.Native.Nat.{ℕ, zero, suc, ◌+◌}
use Rattle.unwind_operation.specs.declared.Register.{Register}
use Rattle.unwind_operation.specs.declared.UnwindOperation.{UnwindOperation}
use Rattle.unwind_operation.specs.declared.UnwindCode.{UnwindCode}
use Rattle.unwind_array.specs.Arrays.{CodeArray, Arrays}
use Rattle.unwind_state.specs.State.{Window}
use Rattle.unwind_state.specs.declared.State.{State}
use Rattle.prolog_machine.specs.Machine.{Memory, Machine}

-- an operation at its code offset
abbrev pub code : ℕ → UnwindOperation → UnwindCode
code n o = record { code_offset = n; operation = o }

abbrev pub general : ℕ → Register
general n = record { 0 = n }

abbrev pub xmm : ℕ → Register
xmm n = record { 0 = 17 + n }

-- an array: frame register, frame offset, prolog size, codes
abbrev pub array : ℕ → ℕ → ℕ → List UnwindCode → CodeArray
array r o size cs = record { frame = record { register = r; offset = o }; prolog = size; codes = cs }

abbrev pub alone : CodeArray → Arrays
alone x = record { found = x; outer = [] }

-- general register `r` is 100 + `r`, RSP aside, and word `j` of the XMM registers is 200 + `j`
abbrev pub registers_at : ℕ → State
registers_at sp =
    record {
      gpr = 100 ∷ 101 ∷ 102 ∷ 103 ∷ sp ∷ 105 ∷ 106 ∷ 107 ∷ 108 ∷ 109 ∷ 110 ∷ 111 ∷ 112 ∷ 113 ∷ 114 ∷ 115 ∷ [];
      rip = 0;
      xmm =
          200 ∷ 201 ∷ 202 ∷ 203 ∷ 204 ∷ 205 ∷ 206 ∷ 207 ∷ 208 ∷ 209 ∷ 210 ∷ 211 ∷ 212 ∷ 213 ∷ 214 ∷ 215
          ∷ 216 ∷ 217 ∷ 218 ∷ 219 ∷ 220 ∷ 221 ∷ 222 ∷ 223 ∷ 224 ∷ 225 ∷ 226 ∷ 227 ∷ 228 ∷ 229 ∷ 230 ∷ 231 ∷ [];
    }

-- the word at an address is 1,000,000 more than the address
abbrev pub numbered : Memory
numbered x = 1000000 + x

abbrev pub machine_at : ℕ → Machine
machine_at sp = record { registers = registers_at sp; memory = numbered; ss = 43; rflags = 514; cs = 51; error = 9 }

-- so many words of a memory from an address on
abbrev pub words_from : Memory → ℕ → ℕ → List ℕ
words_from memory a zero = []
words_from memory a (suc n) = memory a ∷ words_from memory (a + 8) n

abbrev pub window_at : Memory → ℕ → ℕ → Window
window_at memory a n = record { base = a; words = words_from memory a n }
