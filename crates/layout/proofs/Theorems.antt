-- What is proved of reading and writing by a layout, for every layout.
-- Assumes nothing.
use mathlib.Core.Path.{◌≡◌, refl, sym, ap, ◌∙◌}
use mathlib.Core.List.{List, [], ◌∷◌, ◌++◌, append_assoc}
use mathlib.Core.Bool.{Bool, true, false}
use mathlib.Core.Logic.{⊎_elim}
use Prim.Native.Nat.{ℕ, zero, suc, ◌+◌, ◌≤◌, ◌<◌}
use native.Mathlib.Nat.{not-le_of_lt, add-zero}
use native.Mathlib.Omega.{arith}
use lib.ListN.{drop_of_length-le, length, take, drop, length-append}
use lib.Seq.{drop-cons, take-add, drop-drop, drop-append-add}
use lib.Dec.{leb}
use borrow.Author.Tests.{le-leb, lt-leb, leb-true, leb-false}
use Rattle.fields.specs.Number.{number_at, bytes_of, Bytes}
use Rattle.fields.proofs.Number.{length_bytes, number_written, number_before, bytes_read}
use Rattle.fields.proofs.Laws.{le_or_lt}
use Rattle.layout.specs.Layout.{elements, size, read_by, numbers_at, write_by, Fits}
use Rattle.layout.proofs.Laws.{read_full, length_write}

-- A layout is written in as many bytes as it takes.
pub length_written : (big : Bool) (ws ns : List ℕ) → length (write_by big ws ns) ≡ size ws
length_written = length_write

-- A layout is read as a number for each field.
pub length_numbers : (big : Bool) (ws s : List ℕ) (at : ℕ) → length (numbers_at big ws s at) ≡ length ws
unfolding numbers_at
length_numbers big [] s at = refl
length_numbers big (w ∷ ws) s at = ap suc (length_numbers big ws s (at + w))

leb_as : (a b c d : ℕ) (t : Bool) → leb c d ≡ t → (a ≤ b → c ≤ d) → (c ≤ d → a ≤ b) → leb a b ≡ t
leb_as a b c d true e f g = le-leb a b (g (leb-true c d e))
leb_as a b c d false e f g = ⊎_elim (λ h. absurd (not-le_of_lt (leb-false c d e) (f h))) (λ h. lt-leb a b h) (le_or_lt a b)

leb_shift : (p a b : ℕ) {n : ℕ} → n ≡ p + b → leb (p + a) n ≡ leb a b
leb_shift p a b {n} e = leb_as (p + a) n a b (leb a b) refl (λ h. omega arith) (λ h. omega arith)

number_past : (big : Bool) (w : ℕ) (p s : List ℕ) (at : ℕ) → number_at big w (p ++ s) (length p + at) ≡ number_at big w s at
unfolding number_at
number_past big w p s at = rw (drop-append-add p s at)

-- What precedes the record does not change what is read; the end that is told counts from the front of all.
pub read_after : {A : Type 0} (full : List ℕ → A) (short : ℕ → A) (big : Bool) (ws p s : List ℕ) (at : ℕ)
    → read_by full short big ws (p ++ s) (length p + at) ≡ read_by full (λ e. short (length p + e)) big ws s at
unfolding read_by
read_after full short big [] p s at = refl
read_after full short big (w ∷ ws) p s at =
    let e : length p + at + w ≡ length p + (at + w) = omega arith in
    let t : leb (length p + (at + w)) (length (p ++ s)) ≡ leb (at + w) (length s) = leb_shift (length p) (at + w) (length s)
    (length-append p s) in
    rw (e, t, number_past big w p s at, read_after (λ ns. full (number_at big w s at ∷ ns)) short big ws p s (at + w))

numbers_before : (big : Bool) (ws s q : List ℕ) (at : ℕ) → at + size ws ≤ length s → numbers_at big ws (s ++ q) at ≡ numbers_at big ws s at
unfolding numbers_at
numbers_before big [] s q at h = refl
numbers_before big (w ∷ ws) s q at h =
    let l : at + w ≤ length s = omega arith in
    rw (number_before big w s q at l, numbers_before big ws s q (at + w) (omega arith))

numbers_written : (big : Bool) (ws ns p q : List ℕ) → Fits ws ns → numbers_at big ws (p ++ write_by big ws ns ++ q) (length p) ≡ ns
unfolding numbers_at write_by
numbers_written big [] [] p q h = refl
numbers_written big [] (n ∷ ns) p q h = absurd h
numbers_written big (w ∷ ws) [] p q h = absurd h
numbers_written big (w ∷ ws) (n ∷ ns) p q h =
    let b : List ℕ = bytes_of big w n in
    let r : List ℕ = write_by big ws ns in
    let f : p ++ (b ++ r) ++ q ≡ p ++ (b ++ (r ++ q)) = simp append_assoc in
    let e : number_at big w (p ++ (b ++ r) ++ q) (length p) ≡ n = rw (f, ← add-zero (length p), number_past big w p (b ++ (r ++ q)) 0)
    (number_written big w n (r ++ q) h.0) in
    let k : length p + w ≡ length (p ++ b) = omega (arith, length-append p b, length_bytes big w n) in
    let a : p ++ (b ++ r) ++ q ≡ (p ++ b) ++ r ++ q = simp append_assoc in
    rw (e, k, a, numbers_written big ws ns (p ++ b) q h.1)

-- What follows the record does not change what is read.
pub read_before : {A : Type 0} (full : List ℕ → A) (short : ℕ → A) (big : Bool) (ws s q : List ℕ) (at : ℕ) → at + size ws ≤ length s
    → read_by full short big ws (s ++ q) at ≡ read_by full short big ws s at
read_before full short big ws s q at h =
    sym (read_full big (s ++ q) full short ws at (omega (arith, length-append s q)))
    ∙ ap full (numbers_before big ws s q at h)
    ∙ read_full big s full short ws at h

-- Numbers that were written are read again, whatever precedes and follows them.
pub read_written : {A : Type 0} (full : List ℕ → A) (short : ℕ → A) (big : Bool) (ws ns p q : List ℕ) → Fits ws ns
    → read_by full short big ws (p ++ write_by big ws ns ++ q) (length p) ≡ full ns
read_written full short big ws ns p q h =
    sym (read_full big (p ++ write_by big ws ns ++ q) full short ws (length p) (simp length-append (omega (arith, length_write big ws ns))))
    ∙ ap full (numbers_written big ws ns p q h)

-- Bytes that were read are written again.
pub written_read : (big : Bool) (ws s : List ℕ) (at : ℕ) → at + size ws ≤ length s → Bytes s
    → write_by big ws (numbers_at big ws s at) ≡ take (size ws) (drop at s)
unfolding write_by numbers_at
written_read big [] s at h b = refl
written_read big (w ∷ ws) s at h b =
    let l : at + w ≤ length s = omega arith in
    let e = written_read big ws s (at + w) (omega arith) b in
    rw (bytes_read big w s at l b, e, take-add w (size ws) (drop at s), drop-drop w at s)

-- A reading is full, or it tells the end of a field that is past the bytes and not past the record.
pub data Reads {A : Type 0} (full : A) (short : ℕ → A) (ws s : List ℕ) (at : ℕ) (x : A) : Type 0 where
  whole : (0 < length ws → at + size ws ≤ length s) → x ≡ full → Reads full short ws s at x
  cut : (needed : ℕ) → length s < needed → needed ≤ at + size ws → x ≡ short needed → Reads full short ws s at x

next : {A : Type 0} {full : A} {short : ℕ → A} {x : A} (w : ℕ) (ws s : List ℕ) (at : ℕ) → at + w ≤ length s
    → Reads full short ws s (at + w) x → Reads full short (w ∷ ws) s at x
next w [] s at h (whole r e) = whole (λ z. omega arith) e
next w (v ∷ ws) s at h (whole r e) = whole (λ z. omega (arith, r (omega arith))) e
next w ws s at h (cut n a b e) = cut n a (omega arith) e

pub reads : {A : Type 0} (full : List ℕ → A) (short : ℕ → A) (big : Bool) (ws s : List ℕ) (at : ℕ)
    → Reads (full (numbers_at big ws s at)) short ws s at (read_by full short big ws s at)
unfolding read_by numbers_at
reads full short big [] s at = whole (λ z. omega arith) refl
reads full short big (w ∷ ws) s at =
    ⊎_elim
    (λ h. rw (le-leb (at + w) (length s) h) (next w ws s at h (reads (λ ns. full (number_at big w s at ∷ ns)) short big ws s (at + w))))
    (λ h. rw (lt-leb (at + w) (length s) h) (cut (at + w) h (omega arith) refl))
    (le_or_lt (at + w) (length s))

written_none : (big : Bool) (ws s : List ℕ) (at : ℕ) → (0 < length ws → at + size ws ≤ length s) → Bytes s
    → write_by big ws (numbers_at big ws s at) ≡ take (size ws) (drop at s)
unfolding write_by
written_none big [] s at r b = refl
written_none big (w ∷ ws) s at r b = written_read big (w ∷ ws) s at (r (omega arith)) b

again : {A : Type 0} (full : List ℕ → A) (short : ℕ → A) (back : A → List ℕ) (big : Bool) (ws s : List ℕ) (at : ℕ) {x : A} → Bytes s
    → ((needed : ℕ) → x ≡ short needed → ⊥) → back (full (numbers_at big ws s at)) ≡ numbers_at big ws s at
    → x ≡ read_by full short big ws s at → Reads (full (numbers_at big ws s at)) short ws s at (read_by full short big ws s at)
    → write_by big ws (back x) ≡ take (size ws) (drop at s)
again full short back big ws s at b never same e (whole r k) = rw (e, k, same) (written_none big ws s at r b)
again full short back big ws s at b never same e (cut n r q k) = absurd (never n (e ∙ k))

-- Bytes whose reading was full are written again, from what the reader made of the numbers.
pub written_again : {A : Type 0} (full : List ℕ → A) (short : ℕ → A) (back : A → List ℕ) (big : Bool) (ws s : List ℕ) (at : ℕ) {x : A}
    → Bytes s → ((needed : ℕ) → x ≡ short needed → ⊥) → back (full (numbers_at big ws s at)) ≡ numbers_at big ws s at
    → x ≡ read_by full short big ws s at → write_by big ws (back x) ≡ take (size ws) (drop at s)
written_again full short back big ws s at b never same e = again full short back big ws s at b never same e (reads full short big ws s at)

-- the elements of an array are all of it
pub elements_all : (n i : ℕ) (l : List ℕ) → i + n ≡ length l → elements n i l [] ≡ drop i l
elements_all zero i l h = let e : length l ≤ i = omega arith in sym (drop_of_length-le l e)
elements_all (suc n) i l h = rw (drop-cons l i 0 (omega arith), elements_all n (suc i) l (omega arith))
