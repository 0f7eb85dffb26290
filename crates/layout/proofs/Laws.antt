-- The laws that the proofs of readers and writers of records cite.
-- Assumes nothing.
use mathlib.Core.Path.{◌≡◌, refl, sym, ap, ◌∙◌}
use mathlib.Core.List.{List, [], ◌∷◌, ◌++◌, append_assoc, append-nil}
use mathlib.Core.Logic.{⊎_elim}
use mathlib.Core.Bool.{Bool}
use Prim.Native.Nat.{ℕ, zero, suc, ◌+◌, ◌*◌, ◌-◌, ◌≤◌, ◌<◌}
use native.Mathlib.Nat.{suc-add, zero-add, not-suc-le-zero, le_of_suc-le-suc}
use native.Mathlib.Numerals.{add-one}
use native.Mathlib.Omega.{arith}
use lib.ListN.{length, get_or, take, drop, set, length-append, length-take}
use lib.Seq.{take_all, take-suc-set, split_at}
use borrow.Author.Tests.{le-leb, lt-leb}
use Rattle.std.specs.Prelude.{Result, Ok, Err}
use Rattle.answer.specs.declared.Refusal.{Refusal}
use Rattle.answer.specs.Answer.{cut_of, refuse_of, room}
use Rattle.fields.specs.Number.{number_at, bytes_of}
use Rattle.fields.specs.Field.{put, stored, write_of}
use Rattle.fields.proofs.Number.{length_bytes}
use Rattle.fields.proofs.Laws.{Missed, le_or_lt, put_sets, put_both, length_put, stored_put, store_done, store_refused, not_refused}
use Rattle.layout.specs.Layout.{array, size, read_by, numbers_at, write_by}

-- reading by a layout, a field at a time
module _ {A : Type 0} (big : Bool) (s : List ℕ) where
  -- the first field has room
  pub read_more : (full : List ℕ → A) (short : ℕ → A) (w : ℕ) (ws : List ℕ) (at : ℕ) → at + w ≤ length s
      → read_by (λ ns. full (number_at big w s at ∷ ns)) short big ws s (at + w) ≡ read_by full short big (w ∷ ws) s at
  unfolding read_by
  read_more full short w ws at h = rw (le-leb (at + w) (length s) h)

  -- the first field ends past the bytes
  pub read_short : (full : List ℕ → A) (short : ℕ → A) (w : ℕ) (ws : List ℕ) (at : ℕ) → length s < at + w
      → short (at + w) ≡ read_by full short big (w ∷ ws) s at
  unfolding read_by
  read_short full short w ws at h = rw (lt-leb (at + w) (length s) h)

  -- every field has room
  pub read_full : (full : List ℕ → A) (short : ℕ → A) (ws : List ℕ) (at : ℕ) → at + size ws ≤ length s
      → full (numbers_at big ws s at) ≡ read_by full short big ws s at
  unfolding read_by numbers_at
  read_full full short [] at h = refl
  read_full full short (w ∷ ws) at h =
      rw (le-leb (at + w) (length s) (omega arith)) (read_full (λ ns. full (number_at big w s at ∷ ns)) short ws (at + w) (omega arith))

  pub full_is : (full : List ℕ → A) (short : ℕ → A) (ws : List ℕ) (at : ℕ) {x : A} → at + size ws ≤ length s
      → x ≡ full (numbers_at big ws s at) → x ≡ read_by full short big ws s at
  full_is full short ws at h e = e ∙ read_full full short ws at h

  -- the fields of `us` have room and the next has none
  pub read_cut : (full : List ℕ → A) (short : ℕ → A) (us : List ℕ) (w : ℕ) (ws : List ℕ) (at : ℕ)
      → (0 < length us → at + size us ≤ length s) → length s < at + size us + w
      → short (at + size us + w) ≡ read_by full short big (us ++ w ∷ ws) s at
  unfolding read_by
  read_cut full short [] w ws at h k =
      let e : at + 0 + w ≡ at + w = omega arith in
      let l : length s < at + w = omega arith in
      rw (e, lt-leb (at + w) (length s) l)
  read_cut full short (u ∷ us) w ws at h k =
      let e : at + (u + size us) + w ≡ at + u + size us + w = omega arith in
      let r : at + (u + size us) ≤ length s = h (omega arith) in
      let l : at + u ≤ length s = omega arith in
      rw (e, le-leb (at + u) (length s) l)
      (read_cut (λ ns. full (number_at big u s at ∷ ns)) short us w ws (at + u) (λ z. omega arith) (omega arith))

  -- a layout in two parts: the second is read where the first ended
  pub read_both : (full : List ℕ → A) (short : ℕ → A) (us ws : List ℕ) (at : ℕ) → at + size us ≤ length s
      → read_by (λ ns. full (numbers_at big us s at ++ ns)) short big ws s (at + size us) ≡ read_by full short big (us ++ ws) s at
  unfolding read_by numbers_at
  read_both full short [] ws at h = let e : at + 0 ≡ at = omega arith in rw e
  read_both full short (u ∷ us) ws at h =
      let e : at + (u + size us) ≡ at + u + size us = omega arith in
      let l : at + u ≤ length s = omega arith in
      rw (e, le-leb (at + u) (length s) l) (read_both (λ ns. full (number_at big u s at ∷ ns)) short us ws (at + u) (omega arith))

pub length_write : (big : Bool) (ws ns : List ℕ) → length (write_by big ws ns) ≡ size ws
unfolding write_by
length_write big [] ns = refl
length_write big (w ∷ ws) ns =
    omega (
      arith,
      length-append (bytes_of big w (get_or ns 0 0)) (write_by big ws (drop 1 ns)),
      length_bytes big w (get_or ns 0 0),
      length_write
          big ws (drop 1 ns),
    )

size_go : (ws : List ℕ) (k : ℕ) → k < length ws → size (take (suc k) ws) ≡ size (take k ws) + get_or ws k 0
size_go [] k h = absurd (not-suc-le-zero h)
size_go (w ∷ ws) zero h = omega arith
size_go (w ∷ ws) (suc k) h = omega (arith, size_go ws k (le_of_suc-le-suc h))

second : (ns : List ℕ) (k : ℕ) → get_or (drop 1 ns) k 0 ≡ get_or ns (suc k) 0
second [] k = refl
second (n ∷ ns) k = refl

write_go : (big : Bool) (ws : List ℕ) (k : ℕ) (ns : List ℕ) → k < length ws
    → write_by big (take (suc k) ws) ns ≡ write_by big (take k ws) ns ++ bytes_of big (get_or ws k 0) (get_or ns k 0)
unfolding write_by
write_go big [] k ns h = absurd (not-suc-le-zero h)
write_go big (w ∷ ws) zero ns h = append-nil (bytes_of big w (get_or ns 0 0))
write_go big (w ∷ ws) (suc k) ns h =
    rw (write_go big ws k (drop 1 ns) (le_of_suc-le-suc h), second ns k, append_assoc)

-- Field `k` of a layout, after those before it.
module _ (big : Bool) (ws : List ℕ) (k : ℕ) (h : k < length ws) where
  size_field : size (take (suc k) ws) ≡ size (take k ws) + get_or ws k 0
  size_field = size_go ws k h

  -- reading: it ends past the bytes
  pub cut_at : {A : Type 0} (full : List ℕ → A) (short : ℕ → A) (s : List ℕ) (at : ℕ) → (0 < k → at + size (take k ws) ≤ length s)
      → length s < at + size (take k ws) + get_or ws k 0 → short (at + size (take k ws) + get_or ws k 0) ≡ read_by full short big ws s at
  cut_at full short s at r c =
      read_cut big s full short (take k ws) (get_or ws k 0) (drop (suc k) ws) at (λ z. r (omega (arith, length-take k ws))) c
      ∙ ap (λ (l : List ℕ). read_by full short big l s at) (sym (split_at ws k 0 h))

  -- the same, by the answer of the field's own read, passed on
  pub missed_at : {A : Type 0} (full : List ℕ → A) (refusal : Refusal → A) (s : List ℕ) (at i : ℕ) {q : Refusal}
      → Missed (get_or ws k 0) s i q → i ≡ at + size (take k ws) → (0 < k → i ≤ length s)
      → refusal q ≡ read_by full (λ end. refusal (cut_of end)) big ws s at
  missed_at full refusal s at i m e r =
      let past : length s < at + size (take k ws) + get_or ws k 0 = omega (arith, m.past) in
      rw (m.why, e) (cut_at full (λ end. refusal (cut_of end)) s at (λ z. omega (arith, r z)) past)

  -- the same of the answer that hands that refusal on
  pub missed_by : {A : Type 0} (full : List ℕ → A) (refusal : Refusal → A) (s : List ℕ) (at i : ℕ) {q : Refusal} {r : A}
      → Missed (get_or ws k 0) s i q → i ≡ at + size (take k ws) → (0 < k → i ≤ length s) → r ≡ refusal q
      → r ≡ read_by full (λ end. refusal (cut_of end)) big ws s at
  missed_by full refusal s at i m e r f = f ∙ missed_at full refusal s at i m e r

  -- writing: its bytes are put after theirs
  put_at : (ns o l m : List ℕ) (at i : ℕ) → l ≡ put o at (write_by big (take k ws) ns) → i ≡ at + size (take k ws)
      → at + size (take k ws) + get_or ws k 0 ≤ length o → m ≡ put l i (bytes_of big (get_or ws k 0) (get_or ns k 0))
      → m ≡ put o at (write_by big (take (suc k) ws) ns)
  put_at ns o l m at i e p r f =
      let a : List ℕ = write_by big (take k ws) ns in
      let b : List ℕ = bytes_of big (get_or ws k 0) (get_or ns k 0) in
      let la : length a ≡ size (take k ws) = length_write big (take k ws) ns in
      let lb : length b ≡ get_or ws k 0 = length_bytes big (get_or ws k 0) (get_or ns k 0) in
      let j : put (put o at a) i b ≡ put o at (a ++ b) = put_both o at i a b (omega arith) (omega arith) in
      f ∙ rw (e, j, write_go big ws k ns h)

  -- the same, by the write of the field, where there is room for the record
  pub stored_at : (ns o l m : List ℕ) (at i : ℕ) → l ≡ put o at (write_by big (take k ws) ns) → i ≡ at + size (take k ws)
      → at + size (take k ws) + get_or ws k 0 ≤ length o → m ≡ stored l i (bytes_of big (get_or ws k 0) (get_or ns k 0))
      → m ≡ put o at (write_by big (take (suc k) ws) ns)
  stored_at ns o l m at i e p r f =
      let lw : length (write_by big (take k ws) ns) ≡ size (take k ws) = length_write big (take k ws) ns in
      let ll : length l ≡ length o = ap length e ∙ length_put o at (write_by big (take k ws) ns) (omega arith) in
      put_at ns o l m at i e p r
      (stored_put (get_or ws k 0) l i (bytes_of big (get_or ws k 0) (get_or ns k 0)) (length_bytes big (get_or ws k 0) (get_or ns k 0))
      (omega arith) f)

  -- it has room, so it is not refused
  pub room_at : (ns o l : List ℕ) (at i : ℕ) {r : Result Unit Refusal} {q : Refusal} → l ≡ put o at (write_by big (take k ws) ns)
      → i ≡ at + size (take k ws) → at + size (take k ws) + get_or ws k 0 ≤ length o → r ≡ write_of (get_or ws k 0) l i → r ≡ Err q → ⊥
  room_at ns o l at i e p h f =
      let lw : length (write_by big (take k ws) ns) ≡ size (take k ws) = length_write big (take k ws) ns in
      let ll : length l ≡ length o = ap length e ∙ length_put o at (write_by big (take k ws) ns) (omega arith) in
      not_refused (get_or ws k 0) l i (omega arith) f

-- writing a record: nothing yet, all of it, and no room
pub put_none : (big : Bool) (ns o : List ℕ) (at : ℕ) → at ≤ length o → o ≡ put o at (write_by big [] ns)
unfolding write_by
put_none big ns o at h = put_sets o at [] (omega arith)

module _ (big : Bool) (ws ns o : List ℕ) (at : ℕ) where
  pub record_done : {l : List ℕ} → at + size ws ≤ length o → l ≡ put o at (write_by big ws ns)
      → (Ok tt ≡ write_of (size ws) o at) × (l ≡ stored o at (write_by big ws ns))
  record_done h e = store_done (size ws) o at (write_by big ws ns) (length_write big ws ns) h e

  pub record_refused : {q : Refusal} → length o < at + size ws → q ≡ refuse_of room
      → (Err q ≡ write_of (size ws) o at) × (o ≡ stored o at (write_by big ws ns))
  record_refused h e = store_refused (size ws) o at (write_by big ws ns) (length_write big ws ns) h e

-- A run of one width: the field after `k` of them.
array_split : (k m w : ℕ) (ws : List ℕ) → array (k + m) w ws ≡ array k w [] ++ array m w ws
array_split zero m w ws = rw (zero-add m)
array_split (suc k) m w ws = rw (suc-add k m, array_split k m w ws)

array_size : (k w : ℕ) → size (array k w []) ≡ k * w
array_size zero w = omega arith
array_size (suc k) w = omega (arith, array_size k w)

array_length : (k w : ℕ) → length (array k w []) ≡ k
array_length zero w = refl
array_length (suc k) w = ap suc (array_length k w)

run_go : (big : Bool) (w k : ℕ) (s : List ℕ) (at : ℕ)
    → numbers_at big (array (suc k) w []) s at ≡ numbers_at big (array k w []) s at ++ (number_at big w s (at + k * w) ∷ [])
unfolding numbers_at
run_go big w zero s at = let e : at + 0 * w ≡ at = omega arith in rw e
run_go big w (suc k) s at = let e : at + suc k * w ≡ at + w + k * w = omega arith in rw (e, run_go big w k s (at + w))

run_write : (big : Bool) (w k : ℕ) (ns : List ℕ)
    → write_by big (array (suc k) w []) ns ≡ write_by big (array k w []) ns ++ bytes_of big w (get_or ns k 0)
unfolding write_by
run_write big w zero ns = append-nil (bytes_of big w (get_or ns 0 0))
run_write big w (suc k) ns = rw (run_write big w k (drop 1 ns), second ns k, append_assoc)

module _ (big : Bool) (w k : ℕ) where
  pub run_cut : {A : Type 0} (full : List ℕ → A) (short : ℕ → A) (m : ℕ) (ws s : List ℕ) (at : ℕ) → k < m → (0 < k → at + k * w ≤ length s)
      → length s < at + k * w + w → short (at + k * w + w) ≡ read_by full short big (array m w ws) s at
  run_cut full short m ws s at l r c =
      let e : m ≡ k + suc (m - suc k) = omega arith in
      let z : size (array k w []) ≡ k * w = array_size k w in
      rw (e, array_split k (suc (m - suc k)) w ws, ← z)
      (read_cut big s full short (array k w []) w (array (m - suc k) w ws) at
      (λ i. let h : 0 < k = omega (arith, array_length k w) in omega (arith, r h)) (omega arith))

  pub run_more : (s : List ℕ) (at : ℕ)
      → numbers_at big (array (suc k) w []) s at ≡ numbers_at big (array k w []) s at ++ (number_at big w s (at + k * w) ∷ [])
  run_more s at = run_go big w k s at

  pub run_put : (ns o l m : List ℕ) (at i : ℕ) → l ≡ put o at (write_by big (array k w []) ns) → i ≡ at + k * w → at + k * w + w ≤ length o
      → m ≡ put l i (bytes_of big w (get_or ns k 0)) → m ≡ put o at (write_by big (array (suc k) w []) ns)
  run_put ns o l m at i e p r f =
      let a : List ℕ = write_by big (array k w []) ns in
      let b : List ℕ = bytes_of big w (get_or ns k 0) in
      let la : length a ≡ k * w = length_write big (array k w []) ns ∙ array_size k w in
      let lb : length b ≡ w = length_bytes big w (get_or ns k 0) in
      let j : put (put o at a) i b ≡ put o at (a ++ b) = put_both o at i a b (omega arith) (omega arith) in
      f ∙ rw (e, j, run_write big w k ns)

-- a run that is read into an array, element by element
module _ (big : Bool) (w : ℕ) (s : List ℕ) (at : ℕ) where
  pub run_read : (l : List ℕ) (k i v : ℕ) → take k l ≡ numbers_at big (array k w []) s at → k < length l → i ≡ at + k * w
      → v ≡ number_at big w s i → take (k + 1) (set l k v) ≡ numbers_at big (array (k + 1) w []) s at
  run_read l k i v e h p q = rw (add-one k, take-suc-set l k v h, run_more big w k s at, e, q, p)

  pub run_end : (l : List ℕ) (k m : ℕ) → k ≡ m → length l ≡ m → take k l ≡ numbers_at big (array k w []) s at
      → l ≡ numbers_at big (array m w []) s at
  run_end l k m e h q = sym (take_all m l (omega arith)) ∙ rw e at q

-- a run that is written, number by number
pub run_wrote : (big : Bool) (w : ℕ) (ns o l m : List ℕ) (at k i : ℕ)
    → (length l ≡ length o) × (l ≡ put o at (write_by big (array k w []) ns)) → i ≡ at + k * w → at + k * w + w ≤ length o
    → m ≡ stored l i (bytes_of big w (get_or ns k 0)) → (length m ≡ length o) × (m ≡ put o at (write_by big (array (k + 1) w []) ns))
run_wrote big w ns o l m at k i (h, e) p r f =
    let lb : length (bytes_of big w (get_or ns k 0)) ≡ w = length_bytes big w (get_or ns k 0) in
    let g : m ≡ put l i (bytes_of big w (get_or ns k 0)) = stored_put w l i (bytes_of big w (get_or ns k 0)) lb (omega arith) f in
    (ap length g ∙ length_put l i (bytes_of big w (get_or ns k 0)) (omega arith) ∙ h, rw (add-one k) (run_put big w k ns o l m at i e p r g))

-- what the reading `r` of a layout's first part tells of the reading `x` of all of it: it found the numbers, and `y` goes on from there; or
-- it was cut short, and so is `x`, at the same field.
pub data Part {A B : Type 0} (r f : A) (S : ℕ → A) (x y : B) (short : ℕ → B) : Type 0 where
  found : r ≡ f → y ≡ x → Part r f S x y short
  missing : (needed : ℕ) → r ≡ S needed → short needed ≡ x → Part r f S x y short

pub part : {A B : Type 0} (F : List ℕ → A) (S : ℕ → A) (full : List ℕ → B) (short : ℕ → B) (big : Bool) (us ws s : List ℕ) (at : ℕ) → Part
    (read_by F S big us s at) (F (numbers_at big us s at)) S (read_by full short big (us ++ ws) s at)
    (read_by (λ ns. full (numbers_at big us s at ++ ns)) short big ws s (at + size us)) short
unfolding read_by numbers_at
part F S full short big [] ws s at = let e : at + 0 ≡ at = omega arith in rw e (found refl refl)
part F S full short big (u ∷ us) ws s at =
    ⊎_elim
    (λ h.
    let e : at + (u + size us) ≡ at + u + size us = omega arith in
    rw (e, le-leb (at + u) (length s) h)
    (part (λ ns. F (number_at big u s at ∷ ns)) S (λ ns. full (number_at big u s at ∷ ns)) short big us ws s (at + u)))
    (λ h. rw (lt-leb (at + u) (length s) h) (missing (at + u) refl refl))
    (le_or_lt (at + u) (length s))
