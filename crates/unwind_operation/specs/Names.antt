-- The names of the registers, by their numbers: those that goblin prints (pe/exception.rs).
-- Assumes nothing.
use Rattle.std.specs.Prelude.{ℕ, List, [], ◌∷◌}
use Prim.Native.String.{String}
use Rattle.answer.specs.Words.{text_at, padded}

-- 11.6: from 0 on
abbrev pub names : List String
names =
    "$rax" ∷ "$rcx" ∷ "$rdx" ∷ "$rbx" ∷ "$rsp" ∷ "$rbp" ∷ "$rsi" ∷ "$rdi"
    ∷ "$r8" ∷ "$r9" ∷ "$r10" ∷ "$r11" ∷ "$r12" ∷ "$r13" ∷ "$r14" ∷ "$r15"
    ∷ "$rip"
    ∷ "$xmm0" ∷ "$xmm1" ∷ "$xmm2" ∷ "$xmm3" ∷ "$xmm4" ∷ "$xmm5" ∷ "$xmm6" ∷ "$xmm7"
    ∷ "$xmm8" ∷ "$xmm9" ∷ "$xmm10" ∷ "$xmm11" ∷ "$xmm12" ∷ "$xmm13" ∷ "$xmm14" ∷ "$xmm15"
    ∷ []

-- 11.7: the name in a row of six bytes; a number above 32 has none
unfoldable pub name_of : ℕ → List ℕ
name_of n = padded 6 (text_at "" names n)
