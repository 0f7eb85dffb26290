-- What the library reads from the bytes of a number, and writes of one, is what `Number` says.
-- Assumes nothing.
use Rattle.std.proofs.Common.{◌≡◌, refl, ℕ, ◌+◌, ◌/◌, ◌≤◌, Bool, List, true, false, length, get_or, arith, w16, w32, w64}
use Rattle.std.specs.Int.{from_le_bytes, from_be_bytes, to_le_bytes, to_be_bytes}
use Rattle.fields.specs.Number.{number_at, bytes_of, joined}
use Rattle.fields.proofs.Number.{number_one, number_joined}

-- a number, by its bytes
at_2 : (big : Bool) (s : List ℕ) (at : ℕ) → at + 2 ≤ length s
    → number_at big 2 s at ≡ joined big 1 (get_or s at 0) (get_or s (at + 1) 0)
at_2 big s at h = rw (number_joined big 1 s at h, number_one big s at (omega arith), number_one big s (at + 1) (omega arith))

at_4 : (big : Bool) (s : List ℕ) (at : ℕ) → at + 4 ≤ length s → number_at big 4 s at
    ≡ joined big 2 (joined big 1 (get_or s at 0) (get_or s (at + 1) 0)) (joined big 1 (get_or s (at + 2) 0) (get_or s (at + 2 + 1) 0))
at_4 big s at h = rw (number_joined big 2 s at h, at_2 big s at (omega arith), at_2 big s (at + 2) (omega arith))

module _ (s : List ℕ) where
  pub be_2 : length s ≡ 2 → from_be_bytes w16 s ≡ number_at true 2 s 0
  be_2 h = rw (at_2 true s 0 (omega arith)) (omega arith)

  pub le_2 : length s ≡ 2 → from_le_bytes w16 s ≡ number_at false 2 s 0
  le_2 h = rw (at_2 false s 0 (omega arith)) (omega arith)

  pub be_4 : length s ≡ 4 → from_be_bytes w32 s ≡ number_at true 4 s 0
  be_4 h = rw (at_4 true s 0 (omega arith)) (omega arith)

  pub le_4 : length s ≡ 4 → from_le_bytes w32 s ≡ number_at false 4 s 0
  le_4 h = rw (at_4 false s 0 (omega arith)) (omega arith)

  pub be_8 : length s ≡ 8 → from_be_bytes w64 s ≡ number_at true 8 s 0
  be_8 h = rw (number_joined true 4 s 0 (omega arith), at_4 true s 0 (omega arith), at_4 true s 4 (omega arith)) (omega arith)

  pub le_8 : length s ≡ 8 → from_le_bytes w64 s ≡ number_at false 8 s 0
  le_8 h = rw (number_joined false 4 s 0 (omega arith), at_4 false s 0 (omega arith), at_4 false s 4 (omega arith)) (omega arith)

-- dividing by 256 again and again
by_2 : (n : ℕ) → n / 256 / 256 ≡ n / 65536
by_2 n = omega arith

by_3 : (n : ℕ) → n / 256 / 256 / 256 ≡ n / 16777216
by_3 n = omega arith

by_4 : (n : ℕ) → n / 256 / 256 / 256 / 256 ≡ n / 4294967296
by_4 n = omega arith

by_5 : (n : ℕ) → n / 256 / 256 / 256 / 256 / 256 ≡ n / 1099511627776
by_5 n = omega arith

by_6 : (n : ℕ) → n / 256 / 256 / 256 / 256 / 256 / 256 ≡ n / 281474976710656
by_6 n = omega arith

by_7 : (n : ℕ) → n / 256 / 256 / 256 / 256 / 256 / 256 / 256 ≡ n / 72057594037927936
by_7 n = omega arith

module _ (n : ℕ) where
  pub to_be_2 : to_be_bytes w16 n ≡ bytes_of true 2 n
  unfolding bytes_of
  to_be_2 = refl

  pub to_le_2 : to_le_bytes w16 n ≡ bytes_of false 2 n
  unfolding bytes_of
  to_le_2 = refl

  pub to_be_4 : to_be_bytes w32 n ≡ bytes_of true 4 n
  unfolding bytes_of
  to_be_4 = rw (by_3 n, by_2 n)

  pub to_le_4 : to_le_bytes w32 n ≡ bytes_of false 4 n
  unfolding bytes_of
  to_le_4 = rw (by_3 n, by_2 n)

  pub to_be_8 : to_be_bytes w64 n ≡ bytes_of true 8 n
  unfolding bytes_of
  to_be_8 = rw (by_7 n, by_6 n, by_5 n, by_4 n, by_3 n, by_2 n)

  pub to_le_8 : to_le_bytes w64 n ≡ bytes_of false 8 n
  unfolding bytes_of
  to_le_8 = rw (by_7 n, by_6 n, by_5 n, by_4 n, by_3 n, by_2 n)
