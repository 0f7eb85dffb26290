-- The number that bytes spell, and the bytes that spell a number, in either order.
-- Assumes nothing.
use Rattle.std.specs.Prelude.{ℕ, zero, suc, ◌+◌, ◌*◌, ◌/◌, ◌%◌, ◌^◌, ◌<◌, List, [], ◌∷◌, ◌++◌, Bool, take, drop}
use Rattle.answer.specs.Test.{pick}

-- the same bytes, the last first
abbrev pub flip : List ℕ → List ℕ
flip [] = []
flip (b ∷ bs) = flip bs ++ (b ∷ [])

-- 4.2: the number that bytes spell, the least significant first
abbrev pub little : List ℕ → ℕ
little [] = 0
little (b ∷ bs) = b + 256 * little bs

-- the `w` bytes of a number, the least significant first; what does not fit in them is lost
abbrev pub little_bytes : ℕ → ℕ → List ℕ
little_bytes zero n = []
little_bytes (suc w) n = n % 256 ∷ little_bytes w (n / 256)

-- from the order of the file to the least significant first, and back
abbrev pub ordered : Bool → List ℕ → List ℕ
ordered big bs = pick big (flip bs) bs

-- 4.2: the number that `w` bytes of `s` from `at` spell, the most significant first where the order is big
unfoldable pub number_at : Bool → ℕ → List ℕ → ℕ → ℕ
number_at big w s at = little (ordered big (take w (drop at s)))

-- 4.2: the `w` bytes that spell a number
unfoldable pub bytes_of : Bool → ℕ → ℕ → List ℕ
bytes_of big w n = ordered big (little_bytes w n)

-- the number whose first `w` bytes spell `a` and whose next `w` spell `b`
abbrev pub joined : Bool → ℕ → ℕ → ℕ → ℕ
joined big w a b = pick big (256 ^ w * a + b) (256 ^ w * b + a)

-- each is a byte
abbrev pub Bytes : List ℕ → Type 0
Bytes [] = Unit
Bytes (b ∷ bs) = (b < 256) × Bytes bs
