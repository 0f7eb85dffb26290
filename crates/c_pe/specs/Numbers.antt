-- Headers as the numbers that C is handed, or hands in.
-- Assumes nothing.
use Rattle.std.specs.Prelude.{ℕ, List, [], ◌∷◌, take}
use Rattle.layout.specs.Layout.{elements}
use Rattle.pe_dos.specs.Dos.{numbers_of, header_of}
use Rattle.pe_dos.specs.declared.DosHeader.{DosHeader}

-- 4.12: the 30 numbers of two bytes of a DOS header; the PE pointer comes after them
abbrev pub halves_of : DosHeader → List ℕ
halves_of h = take 30 (numbers_of h)

-- 4.12: the DOS header with these 30 numbers and this PE pointer
abbrev pub dos_header_of : List ℕ → ℕ → DosHeader
dos_header_of halves pointer = header_of (elements 30 0 halves (pointer ∷ []))
