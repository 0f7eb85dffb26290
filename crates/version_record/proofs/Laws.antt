-- The laws of the four records that proofs cite.
-- Assumes nothing.
use Rattle.std.specs.Prelude.{Ok, Err}
use mathlib.Core.Path.{◌≡◌, refl, sym, ◌∙◌}
use mathlib.Core.List.{List, [], ◌∷◌}
use mathlib.Core.Logic.{◌⊎◌, inl, inr, ⊎_elim}
use mathlib.Core.Bool.{Bool, true, false}
use Prim.Native.Nat.{ℕ, zero, suc, ◌+◌, ◌-◌, ◌≤◌, ◌<◌}
use native.Mathlib.Nat.{not-suc-le-zero, le_of_suc-le-suc}
use native.Mathlib.Numerals.{add-one}
use native.Mathlib.Omega.{arith}
use lib.Dec.{leb, ltb}
use lib.ListN.{length, get_or, take, set, length-take}
use lib.Seq.{take-suc, take_all}
use borrow.Author.Tests.{leb-true, leb-false, lt-ltb, le-ltb, eq-eqb, ne_eqb}
use Rattle.answer.specs.Answer.{refuse_of, cut_of, room}
use Rattle.answer.specs.Test.{pick}
use Rattle.answer.specs.declared.Refusal.{Refusal}
use Rattle.fields.specs.Number.{number_at}
use Rattle.fields.specs.Field.{put}
use Rattle.fields.proofs.Laws.{le_or_lt, put_sets, put_both, store_done, store_refused}
use Rattle.layout.specs.Layout.{size, read_by, numbers_at}
use Rattle.layout.proofs.Laws.{read_full}
use Rattle.layout.proofs.Theorems.{Reads, whole, cut, reads, length_numbers}
use Rattle.version_record.specs.Record.{layout, next, aux_inside, onward_by, onward_at_of, whole_at, write_of, write_out}
use Rattle.version_record.specs.declared.VersionRecord.{VersionRecord}
use Rattle.version_record.specs.declared.VersionRecord.TheVariants.{Verdef, Verdaux, Verneed, Vernaux}
use Rattle.version_record.specs.declared.Onward.{Onward}
use Rattle.version_record.specs.declared.Onward.TheVariants.{Next, Last, Bad}

-- A layout, field by field.
pub size_suc : (ws : List ℕ) (i : ℕ) → i < length ws → size (take (suc i) ws) ≡ size (take i ws) + get_or ws i 0
size_suc [] i h = absurd (not-suc-le-zero h)
size_suc (w ∷ ws) zero h = omega arith
size_suc (w ∷ ws) (suc i) h = omega (arith, size_suc ws i (le_of_suc-le-suc h))

pub size_part : (ws : List ℕ) (i : ℕ) → i < length ws → size (take i ws) + get_or ws i 0 ≤ size ws
size_part [] i h = absurd (not-suc-le-zero h)
size_part (w ∷ ws) zero h = omega arith
size_part (w ∷ ws) (suc i) h = omega (arith, size_part ws i (le_of_suc-le-suc h))

-- the number of field `i`
pub number_at_lem : (big : Bool) (ws s : List ℕ) (at i : ℕ) → i < length ws
    → get_or (numbers_at big ws s at) i 0 ≡ number_at big (get_or ws i 0) s (at + size (take i ws))
unfolding numbers_at
number_at_lem big [] s at i h = absurd (not-suc-le-zero h)
number_at_lem big (w ∷ ws) s at zero h = let e : at + 0 ≡ at = omega arith in rw e
number_at_lem big (w ∷ ws) s at (suc i) h =
    let e : at + (w + size (take i ws)) ≡ at + w + size (take i ws) = omega arith in
    rw e (number_at_lem big ws s (at + w) i (le_of_suc-le-suc h))

-- a record that is not whole: what is answered for it
read_missing : {A : Type 0} (full : List ℕ → A) (bad : A) (big : Bool) (ws s : List ℕ) (at : ℕ) → 0 < length ws → length s < at + size ws
    → Reads (full (numbers_at big ws s at)) (λ end. bad) ws s at (read_by full (λ end. bad) big ws s at)
    → bad ≡ read_by full (λ end. bad) big ws s at
read_missing full bad big ws s at n h (whole r e) = absurd (let z : at + size ws ≤ length s = r n in omega arith)
read_missing full bad big ws s at n h (cut needed a b e) = sym e

-- Fields of two or four bytes.
abbrev Narrow : List ℕ → Type 0
Narrow [] = Unit
Narrow (w ∷ ws) = ((w ≡ 2) ⊎ (w ≡ 4)) × Narrow ws

narrow_at : (ws : List ℕ) (i : ℕ) → Narrow ws → i < length ws → (get_or ws i 0 ≡ 2) ⊎ (get_or ws i 0 ≡ 4)
narrow_at [] i n h = absurd (not-suc-le-zero h)
narrow_at (w ∷ ws) zero n h = n.0
narrow_at (w ∷ ws) (suc i) n h = narrow_at ws i n.1 (le_of_suc-le-suc h)

narrow : (k : VersionRecord) → Narrow (layout k)
narrow Verdef = (inl refl, (inl refl, (inl refl, (inl refl, (inr refl, (inr refl, (inr refl, tt)))))))
narrow Verdaux = (inr refl, (inr refl, tt))
narrow Verneed = (inl refl, (inl refl, (inr refl, (inr refl, (inr refl, tt)))))
narrow Vernaux = (inr refl, (inl refl, (inl refl, (inr refl, (inr refl, tt)))))

pub two_or_four : (k : VersionRecord) (i : ℕ) → i < length (layout k) → (get_or (layout k) i 0 ≡ 2) ⊎ (get_or (layout k) i 0 ≡ 4)
two_or_four k i h = narrow_at (layout k) i (narrow k) h

-- each kind's record has a field of four bytes at its end, and at least two fields
pub sized : (k : VersionRecord) → (8 ≤ size (layout k)) × (size (layout k) ≤ 20) × (2 ≤ length (layout k)) × (length (layout k) ≤ 7)
sized Verdef = (omega arith, omega arith, omega arith, omega arith)
sized Verdaux = (omega arith, omega arith, omega arith, omega arith)
sized Verneed = (omega arith, omega arith, omega arith, omega arith)
sized Vernaux = (omega arith, omega arith, omega arith, omega arith)

-- the offset of the next record is the last field of each
pub next_is : (k : VersionRecord) (big : Bool) (s : List ℕ) (at : ℕ)
    → next k (numbers_at big (layout k) s at) ≡ number_at big 4 s (at + (size (layout k) - 4))
next_is Verdef big s at = number_at_lem big (layout Verdef) s at 6 (omega arith)
next_is Verdaux big s at = number_at_lem big (layout Verdaux) s at 1 (omega arith)
next_is Verneed big s at = number_at_lem big (layout Verneed) s at 4 (omega arith)
next_is Vernaux big s at = number_at_lem big (layout Vernaux) s at 4 (omega arith)

module _ (big : Bool) (s : List ℕ) (at : ℕ) where
  pub aux_of_definition : get_or (numbers_at big (layout Verdef) s at) 5 0 ≡ number_at big 4 s (at + 12)
  aux_of_definition = number_at_lem big (layout Verdef) s at 5 (omega arith)

  pub aux_of_need : get_or (numbers_at big (layout Verneed) s at) 3 0 ≡ number_at big 4 s (at + 8)
  aux_of_need = number_at_lem big (layout Verneed) s at 3 (omega arith)

-- the test of a place, as the code makes it
pub shifted : (n at len : ℕ) → at ≤ len → ltb n (len - at) ≡ ltb (at + n) len
shifted n at len h =
    ⊎_elim
    (λ (l : len ≤ at + n). rw (le-ltb (at + n) len l, le-ltb n (len - at) (omega arith)))
    (λ (l : at + n < len). rw (lt-ltb (at + n) len l, lt-ltb n (len - at) (omega arith)))
    (le_or_lt len (at + n))

-- a field of a record that is whole, as the code reads it
pub field_inside : (k : VersionRecord) (s : List ℕ) (at i : ℕ) {ws : List ℕ} → leb (at + size (layout k)) (length s) ≡ true
    → ws ≡ layout k → i < length ws → at + size (take i (layout k)) + get_or ws i 0 ≤ length s
field_inside k s at i t e h =
    let w = leb-true (at + size (layout k)) (length s) t in
    let l : i < length (layout k) = rw e at h in
    rw e (omega (arith, size_part (layout k) i l))

-- the test that a record is whole, as the code makes it
module _ (k : VersionRecord) (s : List ℕ) (at n : ℕ) (e : n ≡ size (layout k)) where
  pub whole_is : leb (at + n) (length s) ≡ true → at + size (layout k) ≤ length s
  whole_is t = rw e at (leb-true (at + n) (length s) t)

  pub missing_is : leb (at + n) (length s) ≡ false → length s < at + size (layout k)
  missing_is t = rw e at (leb-false (at + n) (length s) t)

-- What is at a place: a law for each way that it comes about.
module _ (k : VersionRecord) (big : Bool) (s : List ℕ) (at : ℕ) where
  pub onward_missing : length s < at + size (layout k) → Bad ≡ onward_at_of k big s at
  unfolding onward_at_of
  onward_missing h = read_missing _ Bad big (layout k) s at (omega (arith, sized k)) h (reads _ _ big (layout k) s at)

  -- a record that is there is whole
  pub onward_there : (Bad ≡ onward_at_of k big s at → ⊥) → at + size (layout k) ≤ length s
  onward_there n = ⊎_elim (λ h. h) (λ h. absurd (n (onward_missing h))) (le_or_lt (at + size (layout k)) (length s))

  module _ (h : at + size (layout k) ≤ length s) where
    pub judged : {x : Onward}
        → x ≡ pick (aux_inside k (length s) at (numbers_at big (layout k) s at)) (onward_by (next k (numbers_at big (layout k) s at))) Bad
        → x ≡ onward_at_of k big s at
    unfolding onward_at_of
    judged e = e ∙ read_full big s _ _ (layout k) at h

    pub onward_past : {r : Bool} → r ≡ aux_inside k (length s) at (numbers_at big (layout k) s at) → r ≡ false → Bad ≡ onward_at_of k big s at
    onward_past a t = judged (rw (← a, t))

    pub onward_last : {r : Bool} {n : ℕ} → r ≡ aux_inside k (length s) at (numbers_at big (layout k) s at) → r ≡ true
        → n ≡ number_at big 4 s (at + (size (layout k) - 4)) → n ≡ 0 → Last ≡ onward_at_of k big s at
    onward_last {r} {n} a t e z = judged (rw (← a, t, next_is k big s at, ← e, eq-eqb n 0 z))

    pub onward_next : {r : Bool} {n : ℕ} → r ≡ aux_inside k (length s) at (numbers_at big (layout k) s at) → r ≡ true
        → n ≡ number_at big 4 s (at + (size (layout k) - 4)) → (n ≡ 0 → ⊥) → Next n ≡ onward_at_of k big s at
    onward_next {r} {n} a t e z = judged (rw (← a, t, next_is k big s at, ← e, ne_eqb n 0 z))

-- the first auxiliary of a record that is there is in the section
module _ (k : VersionRecord) (big : Bool) (s : List ℕ) (at : ℕ) (n : Bad ≡ onward_at_of k big s at → ⊥) where
  by_aux : (b : Bool) → b ≡ aux_inside k (length s) at (numbers_at big (layout k) s at)
      → aux_inside k (length s) at (numbers_at big (layout k) s at) ≡ true
  by_aux true e = sym e
  by_aux false e = absurd (n (onward_past k big s at (onward_there k big s at n) e refl))

  pub onward_aux : aux_inside k (length s) at (numbers_at big (layout k) s at) ≡ true
  onward_aux = by_aux (aux_inside k (length s) at (numbers_at big (layout k) s at)) refl

-- Storing numbers one after the other.
pub set_put : (l : List ℕ) (j x : ℕ) → j < length l → set l j x ≡ put l j (x ∷ [])
set_put l j x h = put_sets l j (x ∷ []) (omega arith)

pub put_start : (o : List ℕ) (base : ℕ) (ns : List ℕ) → base ≤ length o → o ≡ put o base (take 0 ns)
put_start o base ns h = put_sets o base [] (omega arith)

pub put_next : (o l ns : List ℕ) (base i x : ℕ) → l ≡ put o base (take i ns) → length l ≡ length o → i < length ns
    → base + length ns ≤ length o → x ≡ get_or ns i 0 → set l (base + i) x ≡ put o base (take (i + 1) ns)
put_next o l ns base i x e q h r f =
    let t : length (take i ns) ≡ i = length-take i ns ∙ omega arith in
    set_put l (base + i) x (omega arith)
    ∙ rw (e, f, add-one i, take-suc ns i 0 h) (put_both o base (base + i) (take i ns) (get_or ns i 0 ∷ []) (omega arith) (omega arith))

-- Writing a record's numbers: a law for each way that it comes about.
module _ (k : VersionRecord) (big : Bool) (s : List ℕ) (at : ℕ) (o : List ℕ) (base : ℕ) where
  pub write_short : {q : Refusal} → whole_at k s at ≡ false → q ≡ cut_of (at + size (layout k))
      → (Err q ≡ write_of k s at o base) × (o ≡ write_out k big s at o base)
  unfolding write_of write_out
  write_short w e = rw (w, e) (refl, refl)

  numbers_length : length (numbers_at big (layout k) s at) ≡ length (layout k)
  numbers_length = length_numbers big (layout k) s at

  pub write_full : {q : Refusal} → whole_at k s at ≡ true → length o < base + length (layout k) → q ≡ refuse_of room
      → (Err q ≡ write_of k s at o base) × (o ≡ write_out k big s at o base)
  unfolding write_of write_out
  write_full w h e =
      let p = store_refused (length (layout k)) o base (numbers_at big (layout k) s at) numbers_length h e in
      rw w p

  pub write_done : (n : ℕ) {l : List ℕ} → whole_at k s at ≡ true → base + length (layout k) ≤ length o → length (layout k) ≤ n
      → l ≡ put o base (take n (numbers_at big (layout k) s at)) → ((Ok tt) ≡ write_of k s at o base) × (l ≡ write_out k big s at o base)
  unfolding write_of write_out
  write_done n {l} w h m e =
      let t : take n (numbers_at big (layout k) s at) ≡ numbers_at big (layout k) s at = take_all n (numbers_at big (layout k) s at)
      (omega (arith, numbers_length)) in
      let p = store_done (length (layout k)) o base (numbers_at big (layout k) s at) numbers_length h (e ∙ rw t) in
      rw w p
