-- `open_of` on small inputs, by computation.
-- Assumes nothing.
use Rattle.std.specs.Prelude.{Ok, Err, None}
use mathlib.Core.Path.{◌≡◌, refl}
use mathlib.Core.List.{List, [], ◌∷◌, ◌++◌}
use Prim.Native.Nat.{ℕ, ◌*◌}
use lib.ListN.{take, replicate}
use Rattle.answer.specs.Answer.{refuse_of, short, magic, limit, contradiction, cut_of}
use Rattle.answer.specs.Test.{must}
use Rattle.fields.specs.Number.{number_at}
use Rattle.fields.specs.Field.{read_of as field_of}
use Rattle.layout.specs.Layout.{read_by}
use Rattle.pe_dos.specs.Dos.{read_of as dos_at}
use Rattle.pe_coff.specs.Coff.{read_of as coff_at}
use Rattle.pe_optional.specs.Optional.{needed, fields_at, read_of as optional_at}
use Rattle.pe_optional.specs.declared.OptionalMagic.TheVariants as magics
use Rattle.pe_section.specs.Section.{read_of as row_at}
use Rattle.pe_header.specs.Header.{pointer_in, coff_in, rows_at, open_of}
use Rattle.pe_header.specs.declared.Header.{Header}

-- a DOS header whose PE pointer is 64, and the signature there, which ends in `t`
abbrev front : ℕ → List ℕ
front t = (77 ∷ 90 ∷ []) ++ replicate 58 0 ++ (64 ∷ 0 ∷ 0 ∷ 0 ∷ 80 ∷ 69 ∷ 0 ∷ t ∷ [])

-- the COFF header of an x64 image with `n` sections, whose optional size is `z`
abbrev coff : ℕ → ℕ → List ℕ
coff n z = (100 ∷ 134 ∷ n ∷ 0 ∷ []) ++ replicate 12 0 ++ (z ∷ 0 ∷ 0 ∷ 0 ∷ [])

-- a PE32+ optional header with no directories: 112 bytes
abbrev plus : List ℕ
plus = (11 ∷ 2 ∷ []) ++ replicate 34 0 ++ (0 ∷ 2 ∷ 0 ∷ 0 ∷ []) ++ replicate 72 0

abbrev image : ℕ → ℕ → List ℕ
image n z = front 0 ++ coff n z ++ plus ++ replicate (40 * n) 0

abbrev opened : ℕ → Header
opened n =
    record {
      pe_pointer = 64;
      machine = 0x8664;
      number_of_sections = n;
      optional_offset = 88;
      optional_size = 112;
      magic = magics.Pe32Plus;
      file_alignment = 512;
      number_of_directories = 0;
      exceptions = None;
      section_table = 200;
    }

two_sections : open_of (image 2 112) ≡ Ok (opened 2)
unfolding open_of must pointer_in dos_at coff_in coff_at optional_at fields_at needed rows_at row_at field_of read_by number_at
two_sections = refl

-- the last byte of the last row is missing
row_cut : open_of (take 279 (image 2 112)) ≡ Err (refuse_of short)
unfolding open_of must pointer_in dos_at coff_in coff_at optional_at fields_at needed rows_at row_at field_of read_by number_at cut_of
row_cut = refl

-- 97 is 3, also where its rows are missing
ninety_seven : open_of (front 0 ++ coff 97 112) ≡ Err (refuse_of limit)
unfolding open_of must pointer_in dos_at coff_in coff_at field_of read_by number_at
ninety_seven = refl

wrong_signature : open_of (front 1) ≡ Err (refuse_of magic)
unfolding open_of must pointer_in dos_at coff_in coff_at field_of read_by number_at
wrong_signature = refl

-- the directory count is not inside the stated optional size
size_one_short : open_of (image 2 111) ≡ Err (refuse_of contradiction)
unfolding open_of must pointer_in dos_at coff_in coff_at optional_at fields_at needed field_of read_by number_at
size_one_short = refl

-- a PE pointer below 64: the headers lie over the DOS header
abbrev over : List ℕ
over =
    (77 ∷ 90 ∷ 0 ∷ 0 ∷ 80 ∷ 69 ∷ 0 ∷ 0 ∷ [])
    ++ coff 0 112
    ++ (11 ∷ 2 ∷ [])
    ++ replicate 30 0
    ++ (4 ∷ 0 ∷ 0 ∷ 0 ∷ 0 ∷ 2 ∷ 0 ∷ 0 ∷ [])
    ++ replicate 72 0

pointer_below_64 : open_of over
    ≡ Ok
    (record {
      pe_pointer = 4;
      machine = 0x8664;
      number_of_sections = 0;
      optional_offset = 28;
      optional_size = 112;
      magic = magics.Pe32Plus;
      file_alignment = 512;
      number_of_directories = 0;
      exceptions = None;
      section_table = 140;
    })
unfolding open_of must pointer_in dos_at coff_in coff_at optional_at fields_at needed rows_at field_of read_by number_at
pointer_below_64 = refl

-- 96 sections are accepted
ninety_six : open_of (image 96 112) ≡ Ok (opened 96)
unfolding open_of must pointer_in dos_at coff_in coff_at optional_at fields_at needed rows_at row_at field_of read_by number_at
ninety_six = refl
