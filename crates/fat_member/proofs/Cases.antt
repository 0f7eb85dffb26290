-- `read_of` on small files, by computation.
-- Assumes nothing.
use Rattle.std.specs.Prelude.{Ok, Err}
use mathlib.Core.Path.{◌≡◌, refl}
use mathlib.Core.List.{List, [], ◌∷◌}
use mathlib.Core.Bool.{true, false}
use Prim.Native.Nat.{ℕ}
use Rattle.answer.specs.Answer.{refuse_of, short, cut_of, past_file}
use Rattle.answer.specs.Test.{must}
use Rattle.fields.specs.Number.{number_at}
use Rattle.layout.specs.Layout.{bytes_in, read_by}
use Rattle.fat_member.specs.FatArch.{fat_arch, read_of}

-- what the cases compute with
unfoldable computed : ℕ
unfolding read_of read_by number_at must cut_of
computed = 0

twenty_bytes : bytes_in fat_arch ≡ 20
twenty_bytes = refl

-- x86-64, whose subtype 3 has the capability 0x80: the offset and the size as given, the align 12
abbrev file : ℕ → ℕ → List ℕ
file offset size =
    1 ∷ 0 ∷ 0 ∷ 7 ∷ 128 ∷ 0 ∷ 0 ∷ 3 ∷ 0 ∷ 0 ∷ 0 ∷ offset ∷ 0 ∷ 0 ∷ 0 ∷ size ∷ 0 ∷ 0 ∷ 0 ∷ 12 ∷ []

end_at_the_end : read_of fat_arch (file 4 16) 0 ≡ Ok
    (record { cputype = 0x01000007; cpusubtype = 3; caps = 128; offset = 4; size = 16; align = 12; is_64 = true })
unfolding computed
end_at_the_end = refl

end_one_past : read_of fat_arch (file 4 17) 0 ≡ Err (refuse_of past_file)
unfolding computed
end_one_past = refl

-- an empty member must lie in the file too
empty_at_the_end : read_of fat_arch (file 20 0) 0 ≡ Ok
    (record { cputype = 0x01000007; cpusubtype = 3; caps = 128; offset = 20; size = 0; align = 12; is_64 = true })
unfolding computed
empty_at_the_end = refl

empty_past : read_of fat_arch (file 21 0) 0 ≡ Err (refuse_of past_file)
unfolding computed
empty_past = refl

-- i386, with an offset and a size whose sum is 2^32 + 1: 14, and no member at 1
sum_past_32_bits : read_of fat_arch (0 ∷ 0 ∷ 0 ∷ 7 ∷ 0 ∷ 0 ∷ 0 ∷ 3 ∷ 255 ∷ 255 ∷ 255 ∷ 255 ∷ 0 ∷ 0 ∷ 0 ∷ 2 ∷ 0 ∷ 0 ∷ 0 ∷ 12 ∷ []) 0 ≡ Err
    (refuse_of past_file)
unfolding computed
sum_past_32_bits = refl

not_64_bit : read_of fat_arch (0 ∷ 0 ∷ 0 ∷ 7 ∷ 0 ∷ 0 ∷ 0 ∷ 3 ∷ 0 ∷ 0 ∷ 0 ∷ 0 ∷ 0 ∷ 0 ∷ 0 ∷ 1 ∷ 0 ∷ 0 ∷ 0 ∷ 12 ∷ []) 0 ≡ Ok
    (record { cputype = 7; cpusubtype = 3; caps = 0; offset = 0; size = 1; align = 12; is_64 = false })
unfolding computed
not_64_bit = refl

-- the end is looked at before a missing align, and after a missing size
past_before_no_align : read_of fat_arch (0 ∷ 0 ∷ 0 ∷ 7 ∷ 0 ∷ 0 ∷ 0 ∷ 3 ∷ 0 ∷ 0 ∷ 0 ∷ 0 ∷ 0 ∷ 0 ∷ 0 ∷ 17 ∷ []) 0 ≡ Err (refuse_of past_file)
unfolding computed
past_before_no_align = refl

no_align : read_of fat_arch (0 ∷ 0 ∷ 0 ∷ 7 ∷ 0 ∷ 0 ∷ 0 ∷ 3 ∷ 0 ∷ 0 ∷ 0 ∷ 0 ∷ 0 ∷ 0 ∷ 0 ∷ 16 ∷ []) 0 ≡ Err (refuse_of short)
unfolding computed
no_align = refl

no_size : read_of fat_arch (0 ∷ 0 ∷ 0 ∷ 7 ∷ 0 ∷ 0 ∷ 0 ∷ 3 ∷ 0 ∷ 0 ∷ 0 ∷ 99 ∷ 0 ∷ 0 ∷ 0 ∷ []) 0 ≡ Err (refuse_of short)
unfolding computed
no_size = refl
