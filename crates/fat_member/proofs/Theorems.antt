-- What is proved of a member, for every file.
-- Assumes nothing.
use Rattle.std.specs.Prelude.{Result, Ok, Err, ℕ, List, ◌≡◌}
use mathlib.Core.Path.{◌≡◌, refl, sym, ap, ◌∙◌}
use mathlib.Core.List.{List}
use mathlib.Core.Bool.{true}
use Prim.Native.Nat.{ℕ, suc, ◌+◌, ◌≤◌, ◌<◌}
use native.Mathlib.Omega.{arith}
use lib.Dec.{T}
use lib.ListN.{length}
use Rattle.answer.specs.Answer.{values, refuse_of, past_file}
use Rattle.answer.specs.declared.Refusal.{Refusal}
use Rattle.answer.proofs.Unique.{same}
use Rattle.layout.specs.Layout.{placed, widths, the, numbers_at}
use Rattle.fat_member.specs.FatArch.{fat_arch, arch_of, read_of, Inside}
use Rattle.fat_member.specs.Answers.{answer_read_fat_arch, count_read_fat_arch, numbers_of}
use Rattle.fat_member.specs.declared.FatArch.{FatArch}
use Rattle.fat_member.proofs.Laws.{numbers_parts, member_past, member_whole, told_member, member_inside}

-- Each field of the table is where the one before it ends.
pub fields_placed : T (placed 0 fat_arch)
fields_placed = tt

-- the numbers of the five fields, and where the member that they name ends
abbrev pub fields_at : List ℕ → ℕ → List ℕ
fields_at s at = numbers_at true (widths fat_arch) s at

abbrev pub end_at : List ℕ → ℕ → ℕ
end_at s at = the fat_arch "offset" (fields_at s at) + the fat_arch "size" (fields_at s at)

-- A member is accepted where its 20 bytes are there and it ends within the file..
pub whole_accepted : (s : List ℕ) (at : ℕ) → at + 20 ≤ length s → end_at s at ≤ length s
    → read_of fat_arch s at ≡ Ok (arch_of fat_arch (fields_at s at))
unfolding numbers_at
whole_accepted s at h l = sym (member_whole fat_arch s at (omega arith) l (omega arith) (ap (arch_of fat_arch) (sym (numbers_parts s at))))

-- ..and nowhere else, and it is the one that is there.
pub record Accepted (s : List ℕ) (at : ℕ) (m : FatArch) : Type 0 where
  pub room : at + 20 ≤ length s
  pub within : end_at s at ≤ length s
  pub is : m ≡ arch_of fat_arch (fields_at s at)

never : {m : FatArch} {k : Refusal} → Ok m ≡ Err k → ⊥
never e = let z : ◌≡◌ {A = ℕ} 0 1 = cc in omega arith

same_member : {m n : FatArch} → ◌≡◌ {A = Result FatArch Refusal} (Ok m) (Ok n) → m ≡ n
same_member e = cc

pub accepted_whole : (s : List ℕ) (at : ℕ) (m : FatArch) → Ok m ≡ read_of fat_arch s at → Accepted s at m
unfolding numbers_at
accepted_whole s at =
    told_member (λ f. (m : FatArch) → Ok m ≡ f → Accepted s at m) (λ k m e. absurd (never e)) s at
    (λ h l m e. record { room = h; within = l; is = same_member e ∙ ap (arch_of fat_arch) (numbers_parts s at) })

-- An accepted member lies in the file.
pub accepted_inside : (s : List ℕ) (at : ℕ) → Inside s (read_of fat_arch s at)
accepted_inside = member_inside

-- A member that ends where the file ends is accepted..
pub end_at_length : (s : List ℕ) (at : ℕ) → at + 20 ≤ length s → end_at s at ≡ length s
    → read_of fat_arch s at ≡ Ok (arch_of fat_arch (fields_at s at))
end_at_length s at h e = whole_accepted s at h (omega arith)

-- ..and one that ends a byte later is 14, and so is one that ends anywhere past the file: the sum of two 32-bit numbers never
-- wraps. Its align need not be there.
pub end_past : (s : List ℕ) (at : ℕ) → at + 16 ≤ length s → length s < end_at s at
    → read_of fat_arch s at ≡ Err (refuse_of past_file)
unfolding numbers_at
end_past s at h l = sym (member_past fat_arch s at h l refl)

pub end_one_past : (s : List ℕ) (at : ℕ) → at + 16 ≤ length s → end_at s at ≡ suc (length s)
    → read_of fat_arch s at ≡ Err (refuse_of past_file)
end_one_past s at h e = end_past s at h (omega arith)

-- Two answers that meet the promise are equal.
pub read_unique : (s : List ℕ) (at : ℕ) {r q : Result FatArch Refusal} → r ≡ read_of fat_arch s at → q ≡ read_of fat_arch s at → r ≡ q
read_unique s at = same

-- The answer has as many numbers as it says, zeros where it is refused.
pub read_count : (a : Result FatArch Refusal) → length (values count_read_fat_arch (answer_read_fat_arch a)) ≡ count_read_fat_arch
read_count (Ok m) = refl
read_count (Err k) = refl

-- The numbers that it stands for are fixed.
pub numbers_unique : (a : FatArch) {r q : List ℕ} → r ≡ numbers_of a → q ≡ numbers_of a → r ≡ q
numbers_unique a = same
