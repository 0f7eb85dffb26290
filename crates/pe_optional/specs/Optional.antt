-- The fields of the optional header that later doors need, by their offsets in it, the least significant byte of each number first
-- (Microsoft, "PE Format", Optional Header (Image Only)).
-- Assumes nothing.
use Rattle.pe_optional.specs.declared.DataDirectory.{DataDirectory}
use Rattle.std.specs.Prelude.{Result, Ok, Err, Option, Some, None, ℕ, ◌+◌, List, false, leb, eqb}
use Rattle.answer.specs.Answer.{refuse_of, magic, contradiction}
use Rattle.answer.specs.Test.{pick, must}
use Rattle.answer.specs.declared.Refusal.{Refusal}
use Rattle.fields.specs.Field.{read_of as field_of}
use Rattle.pe_optional.specs.declared.OptionalMagic.{OptionalMagic}
use Rattle.pe_optional.specs.declared.OptionalMagic.TheVariants.{Pe32, Pe32Plus}
use Rattle.pe_optional.specs.declared.OptionalHeader.{OptionalHeader}

-- 6.7: the magic number of each form
abbrev pub magic_of : OptionalMagic → ℕ
magic_of Pe32 = 0x10B
magic_of Pe32Plus = 0x20B

-- 6.7: the form whose magic number that is; for another number 2
abbrev pub magic_named : ℕ → Result OptionalMagic Refusal
magic_named n = pick (eqb n (magic_of Pe32)) (Ok Pe32) (pick (eqb n (magic_of Pe32Plus)) (Ok Pe32Plus) (Err (refuse_of magic)))

-- 4.14: the offset of FileAlignment
abbrev pub alignment_at : ℕ
alignment_at = 36

-- 4.14, 6.8: the offset of NumberOfRvaAndSizes, by the magic
abbrev pub count_at : OptionalMagic → ℕ
count_at Pe32 = 92
count_at Pe32Plus = 108

-- 4.14, 6.8: the offset of the exception directory's address, by the magic; its size follows, 4 bytes later
abbrev pub exception_at : OptionalMagic → ℕ
exception_at Pe32 = 120
exception_at Pe32Plus = 136

-- 6.10: the index of the exception directory
abbrev pub exception_index : ℕ
exception_index = 3

-- 6.9: a needed field of 4 bytes at an offset of the header goes to `on`: its bytes must be there (1), and it must end inside the stated
-- size (4)
unfoldable pub needed : {A : Type 0} → (Refusal → A) → List ℕ → ℕ → ℕ → ℕ → (ℕ → A) → A
needed refusal s at size offset on =
    field_of (λ n. must refusal (leb (offset + 4) size) contradiction (on n)) refusal false 4 s (at + offset)

-- the header with those fields
abbrev pub header_of : OptionalMagic → ℕ → ℕ → Option DataDirectory → OptionalHeader
header_of m alignment count directory =
    record { magic = m; file_alignment = alignment; number_of_directories = count; exceptions = directory }

-- the fields of a header with that magic
unfoldable pub fields_at : List ℕ → ℕ → ℕ → OptionalMagic → Result OptionalHeader Refusal
fields_at s at size m =
    -- 6.7: the magic lies inside the stated size
    must Err (leb 2 size) contradiction
    -- 6.9: the needed fields, in this order
    (needed Err s at size alignment_at
    (λ alignment.
    needed Err s at size (count_at m)
    (λ count.
    -- 6.10: with 3 directories or fewer there is no exception directory, and nothing more is needed
    pick (leb count exception_index)
    (Ok (header_of m alignment count None))
    (needed Err s at size (exception_at m)
    (λ address.
    needed Err s at size (exception_at m + 4)
    (λ length.
    Ok (header_of m alignment count (Some (record { virtual_address = address; size = length })))))))))

-- 6.7, 6.19: what reading the header at `at`, whose stated size is `size`, answers: on the magic number, 1, 2 and 4 in this order
unfoldable pub read_of : List ℕ → ℕ → ℕ → Result OptionalHeader Refusal
read_of s at size =
    field_of
    (λ number.
    pick (eqb number (magic_of Pe32))
    (fields_at s at size Pe32)
    (pick (eqb number (magic_of Pe32Plus)) (fields_at s at size Pe32Plus) (Err (refuse_of magic))))
    Err
    false
    2
    s
    at
