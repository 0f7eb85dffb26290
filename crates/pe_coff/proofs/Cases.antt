-- `read_of` on small inputs, by computation.
-- Assumes nothing.
use Rattle.std.specs.Prelude.{Ok, Err}
use mathlib.Core.Path.{◌≡◌, refl}
use mathlib.Core.List.{List, [], ◌∷◌}
use lib.ListN.{take}
use Prim.Native.Nat.{ℕ}
use Rattle.answer.specs.Answer.{refuse_of, short, limit, cut_of}
use Rattle.answer.specs.Test.{must}
use Rattle.fields.specs.Number.{number_at}
use Rattle.layout.specs.Layout.{read_by, size}
use Rattle.pe_coff.specs.Coff.{coff_header, read_of}
use Rattle.pe_coff.specs.declared.CoffHeader.{CoffHeader}

twenty_bytes : size coff_header ≡ 20
twenty_bytes = refl

-- an x64 image with `n` sections
abbrev image : ℕ → List ℕ
image n = 100 ∷ 134 ∷ n ∷ 0 ∷ 1 ∷ 0 ∷ 0 ∷ 94 ∷ 2 ∷ 0 ∷ 0 ∷ 0 ∷ 3 ∷ 0 ∷ 0 ∷ 0 ∷ 240 ∷ 0 ∷ 34 ∷ 32 ∷ []

abbrev header : CoffHeader
header =
    record {
      machine = 0x8664;
      number_of_sections = 96;
      time_date_stamp = 1577058305;
      pointer_to_symbol_table = 2;
      number_of_symbols = 3;
      size_of_optional_header = 240;
      characteristics = 0x2022;
    }

ninety_six : read_of (image 96) 0 ≡ Ok header
unfolding read_of must read_by number_at
ninety_six = refl

ninety_seven : read_of (image 97) 0 ≡ Err (refuse_of limit)
unfolding read_of must read_by number_at
ninety_seven = refl

-- the count is judged before the bytes after it are missed
count_before_the_rest : read_of (take 4 (image 97)) 0 ≡ Err (refuse_of limit)
unfolding read_of must read_by number_at
count_before_the_rest = refl

one_byte_missing : read_of (take 19 (image 96)) 0 ≡ Err (refuse_of short)
unfolding read_of must read_by number_at cut_of
one_byte_missing = refl
