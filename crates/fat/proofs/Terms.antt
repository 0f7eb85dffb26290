-- The words that the theorems use of a file: its header is right, and a member of it is good.
-- Assumes nothing.
use Rattle.std.specs.Prelude.{Result, Ok}
use Rattle.answer.specs.declared.Refusal.{Refusal}
use mathlib.Core.Path.{◌≡◌}
use mathlib.Core.List.{List}
use mathlib.Core.Bool.{true}
use Prim.Native.Nat.{ℕ, ◌+◌, ◌*◌, ◌≤◌}
use lib.ListN.{length}
use Rattle.answer.specs.Test.{file_limit}
use Rattle.fields.specs.Number.{number_at}
use Rattle.fat_member.specs.FatArch.{fat_arch, read_of}
use Rattle.fat_member.specs.declared.FatArch.{FatArch}
use Rattle.fat.specs.Fat.{fat_magic, member_limit}

-- the file is not too long, and its header is whole, has the magic, and counts `n` members, no more than the limit
pub record Header (s : List ℕ) (n : ℕ) : Type 0 where
  pub short : length s ≤ file_limit
  pub room : 8 ≤ length s
  pub right : number_at true 4 s 0 ≡ fat_magic
  pub count : n ≡ number_at true 4 s 4
  pub few : n ≤ member_limit

-- an answer that is a member
pub record There (f : Result FatArch Refusal) : Type 0 where
  pub member : FatArch
  pub is : Ok member ≡ f

-- where the fat_arch of that index is
abbrev pub row_at : ℕ → ℕ
row_at i = 8 + i * 20

-- the member with that index is accepted
abbrev pub Good : List ℕ → ℕ → Type 0
Good s i = There (read_of fat_arch s (row_at i))
