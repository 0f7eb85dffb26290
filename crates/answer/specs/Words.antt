-- The words for each answer, and a row of bytes that holds a text.
-- Assumes nothing.
use Rattle.std.specs.Prelude.{ℕ, zero, suc, List, [], ◌∷◌, codes}
use Prim.Native.Char.{code}
use Prim.Native.String.{String, [] as end, ◌∷◌ as ◌then◌}
use Rattle.answer.specs.declared.Refusal.{Refusal}
use Rattle.answer.specs.Answer.{number_of}

-- the texts of the answers, from 0 on
abbrev pub texts : List String
texts =
    "accepted"
    ∷ "the bytes end before a needed field"
    ∷ "wrong magic or signature"
    ∷ "a limit is passed"
    ∷ "a size or count contradicts its table"
    ∷ "the address lies in no section"
    ∷ "the unwind version is not 1 or 2"
    ∷ "unknown operation, or bad operation info"
    ∷ "more than 32 links"
    ∷ "the runtime table is not ordered"
    ∷ "not found"
    ∷ "not a strict prolog"
    ∷ "a stack word is out of reach, or an address leaves 64 bits"
    ∷ "the output is too small"
    ∷ "a fat member reaches past the file"
    ∷ "the machine is not x64"
    ∷ []

-- the text at a place, or `other` past the last
abbrev pub text_at : String → List String → ℕ → String
text_at other [] n = other
text_at other (t ∷ ts) zero = t
text_at other (t ∷ ts) (suc n) = text_at other ts n

-- a text in a row of `w` bytes, filled up with spaces; what is past the row is lost
abbrev pub padded : ℕ → String → List ℕ
padded zero t = []
padded (suc w) end = 32 ∷ padded w end
padded (suc w) (c then t) = code c ∷ padded w t

-- 2.6: the row for an answer
unfoldable pub words_of : ℕ → List ℕ
words_of n = padded 64 (text_at "no such answer" texts n)

-- 2.6: what `{}` writes of a refusal: the text of its number, and none of the spaces that fill its row up
unfoldable pub shown_of : Refusal → List ℕ
shown_of k = codes (text_at "no such answer" texts (number_of k))
