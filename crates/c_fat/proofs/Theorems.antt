-- What is proved of the C functions of this crate, for every input: two answers that meet a promise are equal, and so is what they leave in
-- the
-- memory that they were lent.
-- Assumes nothing.
use mathlib.Core.Path.{◌≡◌}
use mathlib.Core.List.{List}
use Prim.Native.Nat.{ℕ}
use Rattle.answer.proofs.Unique.{same_both}
use Rattle.answer.specs.Answer.{number, values}
use Rattle.fat.specs.Answers.{answer_open_fat, count_open_fat}
use Rattle.fat.specs.Fat.{member_at_of, open_of}
use Rattle.fat_member.specs.Answers.{answer_read_fat_arch, count_read_fat_arch}
use Rattle.fat_member.specs.FatArch.{fat_arch, read_of}

pub hullsift_fat_open_unique : (file : List ℕ) {r q : ℕ} {l k : List ℕ}
    → (r ≡ number (answer_open_fat (open_of file))) × (l ≡ values count_open_fat (answer_open_fat (open_of file)))
    → (q ≡ number (answer_open_fat (open_of file))) × (k ≡ values count_open_fat (answer_open_fat (open_of file))) → (r ≡ q) × (l ≡ k)
hullsift_fat_open_unique file = same_both

pub hullsift_fat_arch_unique : (file : List ℕ) (index : ℕ) {r q : ℕ} {l k : List ℕ}
    → (r ≡ number (answer_read_fat_arch (member_at_of file index))) × (l ≡ values count_read_fat_arch (answer_read_fat_arch (member_at_of file index)))
    → (q ≡ number (answer_read_fat_arch (member_at_of file index))) × (k ≡ values count_read_fat_arch (answer_read_fat_arch (member_at_of file index)))
    → (r ≡ q) × (l ≡ k)
hullsift_fat_arch_unique file index = same_both

pub hullsift_read_fat_arch_unique : (bytes : List ℕ) (at : ℕ) {r q : ℕ} {l k : List ℕ}
    → (r ≡ number (answer_read_fat_arch (read_of fat_arch bytes at))) ×
    (l ≡ values count_read_fat_arch (answer_read_fat_arch (read_of fat_arch bytes at)))
    → (q ≡ number (answer_read_fat_arch (read_of fat_arch bytes at))) ×
    (k ≡ values count_read_fat_arch (answer_read_fat_arch (read_of fat_arch bytes at))) → (r ≡ q) × (l ≡ k)
hullsift_read_fat_arch_unique bytes at = same_both
