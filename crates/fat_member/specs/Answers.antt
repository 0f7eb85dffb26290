-- What the answer of this crate stands for, and how many numbers that is.
-- Assumes nothing.
use Rattle.std.specs.Prelude.{Result, ℕ, List, [], ◌∷◌}
use Rattle.answer.specs.Answer.{Answer, answer_of}
use Rattle.answer.specs.Bit.{bit_of}
use Rattle.answer.specs.declared.Refusal.{Refusal}
use Rattle.fat_member.specs.declared.FatArch.{FatArch}

-- 15.4: the numbers of a member, in the order of its fields
abbrev pub numbers_of : FatArch → List ℕ
numbers_of m =
    m.cputype ∷ m.cpusubtype ∷ m.caps ∷ m.offset ∷ m.size ∷ m.align ∷ bit_of m.is_64 ∷ []

abbrev pub answer_read_fat_arch : Result FatArch Refusal → Answer
answer_read_fat_arch = answer_of numbers_of

abbrev pub count_read_fat_arch : ℕ
count_read_fat_arch = 7
