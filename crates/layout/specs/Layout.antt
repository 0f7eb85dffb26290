-- A fixed record is a layout: its fields in their document's order, each with its width in bytes. What reading and writing by a layout
-- are, and reading a record's fields in parts, so that a check can be made between them.
-- Assumes nothing.
use Rattle.std.specs.Prelude.{ℕ, zero, suc, ◌+◌, ◌^◌, ◌<◌, List, [], ◌∷◌, ◌++◌, Bool, true, false, length, get_or, take, drop, leb, eqb}
use Prim.Native.String.{String}
use lib.Text.{eqt}
use Rattle.answer.specs.Answer.{cut_of}
use Rattle.answer.specs.Test.{pick}
use Rattle.answer.specs.declared.Refusal.{Refusal}
use Rattle.fields.specs.Number.{number_at, bytes_of}

-- 4.8: a row of a record's table: the field's offset in the record, its width in bytes, and its name
pub record Field : Type 0 where
  pub offset : ℕ
  pub width : ℕ
  pub name : String

abbrev pub field : ℕ → ℕ → String → Field
field o w x = record { offset = o; width = w; name = x }

-- an array: `n` fields of one name, one after the other, then the rest of the record
abbrev pub many : ℕ → Field → List Field → List Field
many zero f fs = fs
many (suc n) f fs = f ∷ many n (field (f.offset + f.width) f.width f.name) fs

-- 4.8: each field is where the one before it ends, the first at `at`
abbrev pub placed : ℕ → List Field → Bool
placed at [] = true
placed at (f ∷ fs) = pick (eqb f.offset at) (placed (at + f.width) fs) false

-- the widths of the fields: what is read and written goes by them alone
abbrev pub widths : List Field → List ℕ
widths [] = []
widths (f ∷ fs) = f.width ∷ widths fs

-- the number of fields before the first of that name
abbrev pub place : String → List Field → ℕ
place x [] = 0
place x (f ∷ fs) = pick (eqt x f.name) 0 (suc (place x fs))

-- the number of the field of that name
abbrev pub the : List Field → String → List ℕ → ℕ
the fs x ns = get_or ns (place x fs) 0

-- the fields up to and with the one of that name, and those after it
abbrev pub up_to : String → List Field → List Field
up_to x fs = take (suc (place x fs)) fs

abbrev pub after : String → List Field → List Field
after x fs = drop (suc (place x fs)) fs

-- an array: `n` numbers of one width, then the rest of the layout
abbrev pub array : ℕ → ℕ → List ℕ → List ℕ
array zero w ws = ws
array (suc n) w ws = w ∷ array n w ws

-- the bytes that a layout takes
abbrev pub size : List ℕ → ℕ
size [] = 0
size (w ∷ ws) = w + size ws

-- 3.6: reads by a layout from `at`: the numbers go to `full`. At the first field that ends past the bytes, its end goes to `short`.
unfoldable pub read_by : {A : Type 0} → (List ℕ → A) → (ℕ → A) → Bool → List ℕ → List ℕ → ℕ → A
read_by full short big [] s at = full []
read_by full short big (w ∷ ws) s at =
    pick (leb (at + w) (length s)) (read_by (λ ns. full (number_at big w s at ∷ ns)) short big ws s (at + w)) (short (at + w))

-- the bytes that fields take
abbrev pub bytes_in : List Field → ℕ
bytes_in fs = size (widths fs)

-- 3.6: fields in file order from `at`: their numbers go to `on`; the first that is not whole is refused with 1, at its end
abbrev pub reading : {A : Type 0} → (Refusal → A) → Bool → List Field → List ℕ → ℕ → (List ℕ → A) → A
reading refusal big fs s at on = read_by on (λ end. refusal (cut_of end)) big (widths fs) s at

-- The numbers of a layout at `at`, where there is room for all of it.
unfoldable pub numbers_at : Bool → List ℕ → List ℕ → ℕ → List ℕ
numbers_at big [] s at = []
numbers_at big (w ∷ ws) s at = number_at big w s at ∷ numbers_at big ws s (at + w)

-- 4.9: writes numbers by a layout; a number that is missing is written as 0.
unfoldable pub write_by : Bool → List ℕ → List ℕ → List ℕ
write_by big [] ns = []
write_by big (w ∷ ws) ns = bytes_of big w (get_or ns 0 0) ++ write_by big ws (drop 1 ns)

-- there is a number for each field, and it fits
abbrev pub Fits : List ℕ → List ℕ → Type 0
Fits [] [] = Unit
Fits [] (n ∷ ns) = ⊥
Fits (w ∷ ws) [] = ⊥
Fits (w ∷ ws) (n ∷ ns) = (n < 256 ^ w) × Fits ws ns

-- `n` elements of a list from index `i`, then the rest; past its end they are 0
abbrev pub elements : ℕ → ℕ → List ℕ → List ℕ → List ℕ
elements zero i l rest = rest
elements (suc n) i l rest = get_or l i 0 ∷ elements n (suc i) l rest
