-- The definitions on small files, by computation.
-- Assumes nothing.
use Rattle.std.specs.Prelude.{Ok, Err}
use mathlib.Core.Path.{◌≡◌, refl}
use mathlib.Core.List.{List, [], ◌∷◌, ◌++◌}
use mathlib.Core.Bool.{true}
use Prim.Native.Nat.{ℕ}
use lib.ListN.{replicate}
use Rattle.answer.specs.Answer.{refuse_of, short, cut_of, magic, limit, not_found, past_file}
use Rattle.answer.specs.Test.{must}
use Rattle.fields.specs.Number.{number_at}
use Rattle.layout.specs.Layout.{bytes_in, read_by}
use Rattle.fat_member.specs.FatArch.{read_of}
use Rattle.fat.specs.Fat.{fat_header, header_in, members_at, held_in, open_of, member_at_of, bytes_at_of}

-- what the cases compute with
unfoldable computed : ℕ
unfolding open_of held_in header_in members_at read_by number_at must read_of cut_of member_at_of
computed = 0

eight_bytes : bytes_in fat_header ≡ 8
eight_bytes = refl

-- a header that counts so many, and what follows
abbrev fat : ℕ → List ℕ → List ℕ
fat count rest = 0xCA ∷ 0xFE ∷ 0xBA ∷ 0xBE ∷ 0 ∷ 0 ∷ 0 ∷ count ∷ rest

-- a member of x86-64 with that offset and size, without its align
abbrev member : ℕ → ℕ → List ℕ
member offset size = 1 ∷ 0 ∷ 0 ∷ 7 ∷ 0 ∷ 0 ∷ 0 ∷ 3 ∷ 0 ∷ 0 ∷ 0 ∷ offset ∷ 0 ∷ 0 ∷ 0 ∷ size ∷ []

count_0 : open_of (fat 0 []) ≡ Ok 0
unfolding computed
count_0 = refl

count_33 : open_of (fat 33 []) ≡ Err (refuse_of limit)
unfolding computed
count_33 = refl

-- 32 are within the limit: the first is missing
count_32 : open_of (fat 32 []) ≡ Err (refuse_of short)
unfolding computed
count_32 = refl

all_32 : open_of (fat 32 (replicate 640 0)) ≡ Ok 32
unfolding computed
all_32 = refl

java : open_of (fat 52 []) ≡ Err (refuse_of limit)
unfolding computed
java = refl

-- the magic is looked at before the count is missed
little_endian : open_of (0xBE ∷ 0xBA ∷ 0xFE ∷ 0xCA ∷ []) ≡ Err (refuse_of magic)
unfolding computed
little_endian = refl

no_count : open_of (0xCA ∷ 0xFE ∷ 0xBA ∷ 0xBE ∷ 0 ∷ 0 ∷ 0 ∷ []) ≡ Err (refuse_of short)
unfolding computed
no_count = refl

end_at_the_end : open_of (fat 1 (member 26 2 ++ 0 ∷ 0 ∷ 0 ∷ 12 ∷ [])) ≡ Ok 1
unfolding computed
end_at_the_end = refl

end_one_past : open_of (fat 1 (member 26 3 ++ 0 ∷ 0 ∷ 0 ∷ 12 ∷ [])) ≡ Err (refuse_of past_file)
unfolding computed
end_one_past = refl

-- the first member's end comes before the second's missing bytes
first_past_second_missing : open_of (fat 2 (member 26 3 ++ 0 ∷ 0 ∷ 0 ∷ 12 ∷ [])) ≡ Err (refuse_of past_file)
unfolding computed
first_past_second_missing = refl

second_missing : open_of (fat 2 (member 26 2 ++ 0 ∷ 0 ∷ 0 ∷ 12 ∷ [])) ≡ Err (refuse_of short)
unfolding computed
second_missing = refl

shown : member_at_of (fat 1 (member 26 2 ++ 0 ∷ 0 ∷ 0 ∷ 12 ∷ [])) 0 ≡ Ok
    (record { cputype = 0x01000007; cpusubtype = 3; caps = 0; offset = 26; size = 2; align = 12; is_64 = true })
unfolding computed
shown = refl

shown_bytes : bytes_at_of (fat 1 (member 26 2 ++ 0 ∷ 0 ∷ 0 ∷ 12 ∷ [])) (member_at_of (fat 1 (member 26 2 ++ 0 ∷ 0 ∷ 0 ∷ 12 ∷ [])) 0) ≡ 0 ∷ 12 ∷
    []
unfolding computed
shown_bytes = refl

at_the_count : member_at_of (fat 1 (member 26 2 ++ 0 ∷ 0 ∷ 0 ∷ 12 ∷ [])) 1 ≡ Err (refuse_of not_found)
unfolding computed
at_the_count = refl

-- a file that does not open shows no member, also below its count
past_not_shown : member_at_of (fat 1 (member 26 3 ++ 0 ∷ 0 ∷ 0 ∷ 12 ∷ [])) 0 ≡ Err (refuse_of past_file)
unfolding computed
past_not_shown = refl
