-- The definitions on small inputs, by computation.
-- Assumes nothing.
use Rattle.std.specs.Prelude.{Err}
use mathlib.Core.Path.{◌≡◌, refl}
use mathlib.Core.List.{List, [], ◌∷◌, ◌++◌}
use Prim.Native.Nat.{ℕ}
use lib.ListN.{take, replicate}
use Rattle.answer.specs.Answer.{refuse_of, short, magic, room, cut_of}
use Rattle.answer.specs.Test.{must}
use Rattle.fields.specs.Number.{number_at, bytes_of}
use Rattle.fields.specs.Field.{write_of as written_in, stored, put}
use Rattle.layout.specs.Layout.{place, read_by, size, write_by}
use Rattle.pe_dos.specs.Dos.{fields, dos_header, header_of, whole, read_of, write_of, write_out}

sixty_four_bytes : size dos_header ≡ 64
sixty_four_bytes = refl

-- the PE pointer is at 0x3C
pointer_at_60 : size (take (place "e_lfanew" fields) dos_header) ≡ 0x3C
pointer_at_60 = refl

-- a header whose PE pointer is 128
abbrev header : List ℕ
header = (77 ∷ 90 ∷ []) ++ replicate 58 0 ++ (128 ∷ 0 ∷ 0 ∷ 0 ∷ [])

abbrev numbers : List ℕ
numbers = (0x5A4D ∷ replicate 29 0) ++ (128 ∷ [])

read_whole : read_of header 0 ≡ whole numbers
unfolding read_of must read_by number_at
read_whole = refl

one_byte_missing : read_of (take 63 header) 0 ≡ Err (refuse_of short)
unfolding read_of must read_by number_at cut_of
one_byte_missing = refl

half_a_signature : read_of (77 ∷ []) 0 ≡ Err (refuse_of short)
unfolding read_of read_by cut_of
half_a_signature = refl

-- the signature is judged before the bytes after it are missed
wrong_signature : read_of (90 ∷ 77 ∷ []) 0 ≡ Err (refuse_of magic)
unfolding read_of must read_by number_at
wrong_signature = refl

written_whole : write_out (replicate 65 7) 1 (header_of numbers) ≡ 7 ∷ header
unfolding write_out stored put write_by bytes_of
written_whole = refl

-- a signature that would not read back is 2, before there is no room
wrong_before_no_room : write_of [] 0 (header_of []) ≡ Err (refuse_of magic)
unfolding write_of must
wrong_before_no_room = refl

no_room : write_of (replicate 63 0) 0 (header_of numbers) ≡ Err (refuse_of room)
unfolding write_of must written_in
no_room = refl
