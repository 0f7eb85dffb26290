-- The laws of a number and its bytes: they undo each other, in either order and at every width.
-- Assumes nothing.
use mathlib.Core.Path.{◌≡◌, refl, sym, ap, ◌∙◌}
use mathlib.Core.List.{List, [], ◌∷◌, ◌++◌, append_assoc, append-nil}
use mathlib.Core.Bool.{Bool, true, false}
use Prim.Native.Nat.{ℕ, zero, suc, ◌+◌, ◌*◌, ◌/◌, ◌%◌, ◌^◌, ◌≤◌, ◌<◌}
use native.Mathlib.Nat.{div-lt_iff_lt-mul, not-suc-le-zero, one-mul, mul_assoc, pow-succ'}
use native.Mathlib.Omega.{arith}
use lib.ListN.{length, get_or, take, drop, length-append, length-take, length-drop}
use lib.Seq.{take-add, drop-drop, drop-cons, drop-append-le, take-append-le}
use Rattle.fields.specs.Number.{flip, little, little_bytes, ordered, number_at, bytes_of, joined, Bytes}

flip_snoc : (bs : List ℕ) (b : ℕ) → flip (bs ++ (b ∷ [])) ≡ b ∷ flip bs
flip_snoc [] b = refl
flip_snoc (a ∷ bs) b = rw (flip_snoc bs b)

pub flip_flip : (bs : List ℕ) → flip (flip bs) ≡ bs
flip_flip [] = refl
flip_flip (b ∷ bs) = rw (flip_snoc (flip bs) b, flip_flip bs)

length_flip : (bs : List ℕ) → length (flip bs) ≡ length bs
length_flip [] = refl
length_flip (b ∷ bs) = omega (arith, length-append (flip bs) (b ∷ []), length_flip bs)

bytes_append : (a b : List ℕ) → Bytes a → Bytes b → Bytes (a ++ b)
bytes_append [] b h k = k
bytes_append (x ∷ a) b h k = (h.0, bytes_append a b h.1 k)

bytes_flip : (bs : List ℕ) → Bytes bs → Bytes (flip bs)
bytes_flip [] h = tt
bytes_flip (b ∷ bs) h = bytes_append (flip bs) (b ∷ []) (bytes_flip bs h.1) (h.0, tt)

pub bytes_drop : (n : ℕ) (s : List ℕ) → Bytes s → Bytes (drop n s)
bytes_drop zero s h = h
bytes_drop (suc n) [] h = tt
bytes_drop (suc n) (b ∷ s) h = bytes_drop n s h.1

pub bytes_take : (n : ℕ) (s : List ℕ) → Bytes s → Bytes (take n s)
bytes_take zero s h = tt
bytes_take (suc n) [] h = tt
bytes_take (suc n) (b ∷ s) h = (h.0, bytes_take n s h.1)

-- the bytes of a slice, from the rule of its elements
pub bytes_of_lem : (s : List ℕ) → ((i : ℕ) → get_or s i 0 < 256) → Bytes s
bytes_of_lem [] h = tt
bytes_of_lem (b ∷ s) h = (h 0, bytes_of_lem s (λ i. h (suc i)))

ordered_twice : (big : Bool) (bs : List ℕ) → ordered big (ordered big bs) ≡ bs
ordered_twice true bs = flip_flip bs
ordered_twice false bs = refl

ordered_length : (big : Bool) (bs : List ℕ) → length (ordered big bs) ≡ length bs
ordered_length true bs = length_flip bs
ordered_length false bs = refl

ordered_bytes : (big : Bool) (bs : List ℕ) → Bytes bs → Bytes (ordered big bs)
ordered_bytes true bs h = bytes_flip bs h
ordered_bytes false bs h = h

little_back : (w n : ℕ) → n < 256 ^ w → little (little_bytes w n) ≡ n
little_back zero n h = omega arith
little_back (suc w) n h =
    let q : n / 256 < 256 ^ w = (div-lt_iff_lt-mul {k = 256} {x = n} {y = 256 ^ w} (omega arith)).1 (omega arith) in
    omega (arith, little_back w (n / 256) q)

bytes_back : (bs : List ℕ) → Bytes bs → little_bytes (length bs) (little bs) ≡ bs
bytes_back [] h = refl
bytes_back (b ∷ bs) h =
    let m : (b + 256 * little bs) % 256 ≡ b = omega (arith, h.0) in
    let d : (b + 256 * little bs) / 256 ≡ little bs = omega (arith, h.0) in
    rw (m, d, bytes_back bs h.1)

length_little : (w n : ℕ) → length (little_bytes w n) ≡ w
length_little zero n = refl
length_little (suc w) n = ap suc (length_little w (n / 256))

small_little : (w n : ℕ) → Bytes (little_bytes w n)
small_little zero n = tt
small_little (suc w) n = (omega arith, small_little w (n / 256))

module _ (big : Bool) (w n : ℕ) where
  pub length_bytes : length (bytes_of big w n) ≡ w
  unfolding bytes_of
  length_bytes = ordered_length big (little_bytes w n) ∙ length_little w n

  pub bytes_small : Bytes (bytes_of big w n)
  unfolding bytes_of
  bytes_small = ordered_bytes big (little_bytes w n) (small_little w n)

take_all_of : (w : ℕ) (a b : List ℕ) → length a ≡ w → take w (a ++ b) ≡ a
take_all_of zero [] b e = refl
take_all_of zero (x ∷ a) b e = let z : ◌≡◌ {A = ℕ} 0 1 = omega arith in absurd (let k : 1 ≤ 0 = omega arith in not-suc-le-zero k)
take_all_of (suc w) [] b e = absurd (let k : 1 ≤ 0 = omega arith in not-suc-le-zero k)
take_all_of (suc w) (x ∷ a) b e = ap (λ (l : List ℕ). x ∷ l) (take_all_of w a b (omega arith))

bytes_number : (big : Bool) (w n : ℕ) → n < 256 ^ w → little (ordered big (bytes_of big w n)) ≡ n
unfolding bytes_of
bytes_number big w n h = rw (ordered_twice big (little_bytes w n)) (little_back w n h)

-- what follows a number does not change it
pub number_before : (big : Bool) (w : ℕ) (s q : List ℕ) (at : ℕ) → at + w ≤ length s → number_at big w (s ++ q) at ≡ number_at big w s at
unfolding number_at
number_before big w s q at h =
    let a : at ≤ length s = omega arith in
    let l : w ≤ length (drop at s) = omega (arith, length-drop at s) in
    rw (drop-append-le at s q a, take-append-le w (drop at s) q l)

-- a number that fits is read back from its bytes, whatever follows
pub number_written : (big : Bool) (w n : ℕ) (rest : List ℕ) → n < 256 ^ w → number_at big w (bytes_of big w n ++ rest) 0 ≡ n
unfolding number_at
number_written big w n rest h = rw (take_all_of w (bytes_of big w n) rest (length_bytes big w n)) (bytes_number big w n h)

-- bytes that were read as a number are written back
pub bytes_read : (big : Bool) (w : ℕ) (s : List ℕ) (at : ℕ) → at + w ≤ length s → Bytes s
    → bytes_of big w (number_at big w s at) ≡ take w (drop at s)
unfolding number_at bytes_of
bytes_read big w s at h b =
    let t : List ℕ = take w (drop at s) in
    let l : length (ordered big t) ≡ w = ordered_length big t ∙ simp (length-take, length-drop) (omega arith) in
    let k : little_bytes w (little (ordered big t)) ≡ ordered big t = rw l at
    (bytes_back (ordered big t) (ordered_bytes big t (bytes_take w (drop at s) (bytes_drop at s b)))) in
    rw k (ordered_twice big t)

flip_append : (a b : List ℕ) → flip (a ++ b) ≡ flip b ++ flip a
flip_append [] b = sym (append-nil (flip b))
flip_append (x ∷ a) b = rw (flip_append a b, append_assoc)

little_append : (w : ℕ) (a b : List ℕ) → length a ≡ w → little (a ++ b) ≡ 256 ^ w * little b + little a
little_append zero [] b e = omega (arith, one-mul (little b))
little_append zero (x ∷ a) b e = absurd (let k : 1 ≤ 0 = omega arith in not-suc-le-zero k)
little_append (suc w) [] b e = absurd (let k : 1 ≤ 0 = omega arith in not-suc-le-zero k)
little_append (suc w) (x ∷ a) b e =
    let h = little_append w a b (omega arith) in
    let p : 256 ^ suc w * little b ≡ 256 * (256 ^ w * little b) = rw (pow-succ' 256 w) (mul_assoc 256 (256 ^ w) (little b)) in
    omega arith

-- a number of twice the width is read as its two halves, joined
pub number_joined : (big : Bool) (w : ℕ) (s : List ℕ) (at : ℕ) → at + (w + w) ≤ length s
    → number_at big (w + w) s at ≡ joined big w (number_at big w s at) (number_at big w s (at + w))
unfolding number_at
number_joined true w s at h =
    let l : length (take w (drop (at + w) s)) ≡ w = simp (length-take, length-drop) (omega arith) in
    let k : length (flip (take w (drop (at + w) s))) ≡ w = length_flip (take w (drop (at + w) s)) ∙ l in
    rw (take-add w w (drop at s), drop-drop w at s, flip_append (take w (drop at s)) (take w (drop (at + w) s)))
    (little_append w (flip (take w (drop (at + w) s))) (flip (take w (drop at s))) k)
number_joined false w s at h =
    let l : length (take w (drop at s)) ≡ w = simp (length-take, length-drop) (omega arith) in
    rw (take-add w w (drop at s), drop-drop w at s) (little_append w (take w (drop at s)) (take w (drop (at + w) s)) l)

little_joined : (w a b : ℕ) → a < 256 ^ w → b < 256 ^ w → little_bytes (w + w) (256 ^ w * b + a) ≡ little_bytes w a ++ little_bytes w b
little_joined w a b ha hb =
    let A : List ℕ = little_bytes w a in
    let B : List ℕ = little_bytes w b in
    let l : length (A ++ B) ≡ w + w = length-append A B ∙ rw (length_little w a, length_little w b) in
    let n : little (A ++ B) ≡ 256 ^ w * b + a = little_append w A B (length_little w a) ∙ rw (little_back w a ha, little_back w b hb) in
    rw (← l, ← n) (bytes_back (A ++ B) (bytes_append A B (small_little w a) (small_little w b)))

-- a number of twice the width is written as its two halves, the first of the file first
pub bytes_joined : (big : Bool) (w a b : ℕ) → a < 256 ^ w → b < 256 ^ w
    → bytes_of big (w + w) (joined big w a b) ≡ bytes_of big w a ++ bytes_of big w b
unfolding bytes_of
bytes_joined true w a b ha hb = rw (little_joined w b a hb ha) (flip_append (little_bytes w b) (little_bytes w a))
bytes_joined false w a b ha hb = little_joined w a b ha hb

-- one byte is the same in either order
pub number_one : (big : Bool) (s : List ℕ) (at : ℕ) → at + 1 ≤ length s → number_at big 1 s at ≡ get_or s at 0
unfolding number_at
number_one true s at h = let l : at < length s = omega arith in rw (drop-cons s at 0 l) (omega arith)
number_one false s at h = let l : at < length s = omega arith in rw (drop-cons s at 0 l) (omega arith)

pub bytes_one : (big : Bool) (n : ℕ) → n < 256 → bytes_of big 1 n ≡ n ∷ []
unfolding bytes_of
bytes_one true n h = let m : n % 256 ≡ n = omega arith in rw m
bytes_one false n h = let m : n % 256 ≡ n = omega arith in rw m
