-- `read_of` on small inputs, by computation.
-- Assumes nothing.
use Rattle.pe_optional.specs.declared.DataDirectory.{DataDirectory}
use Rattle.std.specs.Prelude.{Ok, Err, Option, Some, None}
use mathlib.Core.Path.{◌≡◌, refl}
use mathlib.Core.List.{List, [], ◌∷◌, ◌++◌}
use Prim.Native.Nat.{ℕ}
use lib.ListN.{take, replicate}
use Rattle.answer.specs.Answer.{refuse_of, short, magic, contradiction, cut_of}
use Rattle.answer.specs.Test.{must}
use Rattle.fields.specs.Number.{number_at}
use Rattle.fields.specs.Field.{read_of as field_of}
use Rattle.pe_optional.specs.Optional.{needed, header_of, fields_at, read_of}
use Rattle.pe_optional.specs.declared.OptionalMagic.TheVariants.{Pe32, Pe32Plus}

-- a header with file alignment 512, `n` directories, and an exception directory of 24 bytes at 12288; `m` is the lower half of its
-- magic number's second byte, and `k` the bytes between the alignment and the directory count
abbrev header : ℕ → ℕ → ℕ → List ℕ
header m k n =
    (11 ∷ m ∷ [])
    ++ replicate 34 0
    ++ (0 ∷ 2 ∷ 0 ∷ 0 ∷ [])
    ++ replicate k 0
    ++ (n ∷ 0 ∷ 0 ∷ 0 ∷ [])
    ++ replicate 24 0
    ++ (0 ∷ 48 ∷ 0 ∷ 0 ∷ 24 ∷ 0 ∷ 0 ∷ 0 ∷ [])

abbrev narrow : ℕ → List ℕ
narrow n = header 1 52 n

abbrev wide : ℕ → List ℕ
wide n = header 2 68 n

abbrev directory : Option DataDirectory
directory = Some (record { virtual_address = 12288; size = 24 })

in_pe32 : read_of (narrow 16) 0 128 ≡ Ok (header_of Pe32 512 16 directory)
unfolding read_of fields_at needed field_of number_at must
in_pe32 = refl

in_pe32_plus : read_of (wide 16) 0 144 ≡ Ok (header_of Pe32Plus 512 16 directory)
unfolding read_of fields_at needed field_of number_at must
in_pe32_plus = refl

-- three directories: none of them is needed
three_directories : read_of (take 112 (wide 3)) 0 112 ≡ Ok (header_of Pe32Plus 512 3 None)
unfolding read_of fields_at needed field_of number_at must
three_directories = refl

four_directories : read_of (wide 4) 0 112 ≡ Err (refuse_of contradiction)
unfolding read_of fields_at needed field_of number_at must
four_directories = refl

-- the last needed byte is outside the stated size, and not in the file
size_one_short : read_of (wide 16) 0 143 ≡ Err (refuse_of contradiction)
unfolding read_of fields_at needed field_of number_at must
size_one_short = refl

byte_missing : read_of (take 143 (wide 16)) 0 143 ≡ Err (refuse_of short)
unfolding read_of fields_at needed field_of number_at must cut_of
byte_missing = refl

-- on the magic number the lowest answer wins
magic_missing : read_of (0 ∷ []) 0 0 ≡ Err (refuse_of short)
unfolding read_of field_of cut_of
magic_missing = refl

magic_wrong : read_of (7 ∷ 1 ∷ []) 0 0 ≡ Err (refuse_of magic)
unfolding read_of field_of number_at
magic_wrong = refl

magic_outside : read_of (11 ∷ 1 ∷ []) 0 1 ≡ Err (refuse_of contradiction)
unfolding read_of fields_at field_of number_at must
magic_outside = refl
