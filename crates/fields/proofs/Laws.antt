-- The laws that the proofs of readers and writers cite, over the width, the order and the answer's type.
-- Assumes nothing.
use mathlib.Core.Path.{◌≡◌, refl, sym, ap, ◌∙◌}
use mathlib.Core.List.{List, [], ◌∷◌, ◌++◌, append_assoc}
use mathlib.Core.Logic.{◌⊎◌, inl, inr, ⊎_elim}
use mathlib.Core.Bool.{Bool, true, false}
use Prim.Native.Nat.{ℕ, suc, ◌+◌, ◌-◌, ◌^◌, ◌≤◌, ◌<◌}
use native.Mathlib.Nat.{add-zero, not-suc-le-zero}
use native.Mathlib.Omega.{arith}
use lib.ListN.{length, set, take, drop, length-append, length-take, length-drop}
use lib.Seq.{sets, sets-eq, length-sets, take-take, drop-drop}
use lib.Dec.{leb}
use borrow.Rule.Slice.PartMut.{put_mid}
use borrow.Author.Tests.{le-leb, lt-leb, leb-true, leb-false}
use Rattle.std.specs.Prelude.{Result, Ok, Err}
use Rattle.answer.specs.Answer.{Answer, accepted, refused, cut_of, refuse_of, room}
use Rattle.answer.specs.declared.Refusal.{Refusal}
use Rattle.fields.specs.Number.{number_at, bytes_of, joined}
use Rattle.fields.specs.Field.{read_of, bytes_at_of, put, stored, write_of, write_out}
use Rattle.fields.specs.Answers.{answer_read}
use Rattle.fields.proofs.Number.{length_bytes, number_joined, bytes_joined, number_one, bytes_one}

by_test : (a b : ℕ) (t : Bool) → leb a b ≡ t → (a ≤ b) ⊎ (b < a)
by_test a b true e = inl (leb-true a b e)
by_test a b false e = inr (leb-false a b e)

pub le_or_lt : (a b : ℕ) → (a ≤ b) ⊎ (b < a)
le_or_lt a b = by_test a b (leb a b) refl

-- Reading, from the code's side: what a `return` answers is the field.
module _ {A : Type 0} (value : ℕ → A) (refusal : Refusal → A) (big : Bool) (w : ℕ) (s : List ℕ) (at : ℕ) where
  pub field_value : {n : ℕ} → at + w ≤ length s → n ≡ number_at big w s at → value n ≡ read_of value refusal big w s at
  unfolding read_of
  field_value h e = rw (le-leb (at + w) (length s) h, e)

  pub field_cut : {k : Refusal} → length s < at + w → k ≡ cut_of (at + w) → refusal k ≡ read_of value refusal big w s at
  unfolding read_of
  field_cut h e = rw (lt-leb (at + w) (length s) h, e)

never : {ns : List ℕ} {k : Refusal} → accepted ns ≡ refused k → ⊥
never e = let z : ◌≡◌ {A = ℕ} 0 1 = cc in omega arith

same_values : {ns ms : List ℕ} → accepted ns ≡ accepted ms → ns ≡ ms
same_values e = cc

same_refusal : {k j : Refusal} → refused k ≡ refused j → k ≡ j
same_refusal e = cc

-- Reading, from the caller's side: what an answer tells, by what it stands for (`sees`).
module _ {A : Type 0} (value : ℕ → A) (refusal : Refusal → A) (sees : A → Answer) (ns : ℕ → List ℕ)
    (v : (n : ℕ) → sees (value n) ≡ accepted (ns n)) (q : (k : Refusal) → sees (refusal k) ≡ refused k) (big : Bool) (w : ℕ) (s : List ℕ)
    (at : ℕ) {r : A} (e : r ≡ read_of value refusal big w s at) where
  -- it is accepted: there was room, and the values are those of the field's number
  pub told_value : {ms : List ℕ} → sees r ≡ accepted ms → (at + w ≤ length s) × (ms ≡ ns (number_at big w s at))
  told_value f =
      ⊎_elim
      (λ h. (h, same_values (sym f ∙ ap sees (e ∙ sym (field_value value refusal big w s at h refl)) ∙ v (number_at big w s at))))
      (λ h. absurd (never (sym f ∙ ap sees (e ∙ sym (field_cut value refusal big w s at h refl)) ∙ q (cut_of (at + w)))))
      (le_or_lt (at + w) (length s))

  -- it is refused: the field ends past the bytes, and the refusal is that of its end
  pub told_cut : {k : Refusal} → sees r ≡ refused k → (length s < at + w) × (k ≡ cut_of (at + w))
  told_cut f =
      ⊎_elim
      (λ h. absurd (never (sym (v (number_at big w s at)) ∙ ap sees (field_value value refusal big w s at h refl ∙ sym e) ∙ f)))
      (λ h. (h, same_refusal (sym f ∙ ap sees (e ∙ sym (field_cut value refusal big w s at h refl)) ∙ q (cut_of (at + w)))))
      (le_or_lt (at + w) (length s))

-- what a read that found its number says
pub record Found (big : Bool) (w : ℕ) (s : List ℕ) (at n : ℕ) : Type 0 where
  pub inside : at + w ≤ length s
  pub value : n ≡ number_at big w s at

-- what a read that was cut says
pub record Missed (w : ℕ) (s : List ℕ) (at : ℕ) (k : Refusal) : Type 0 where
  pub past : length s < at + w
  pub why : k ≡ cut_of (at + w)

one_value : {a b : ℕ} → a ∷ [] ≡ b ∷ [] → a ≡ b
one_value e = cc

found_of_lem : {big : Bool} {w : ℕ} {s : List ℕ} {at n : ℕ} → (at + w ≤ length s) × (n ∷ [] ≡ number_at big w s at ∷ []) → Found big w s at n
found_of_lem p = record { inside = p.0; value = one_value p.1 }

pub missed_of : {w : ℕ} {s : List ℕ} {at : ℕ} {k : Refusal} → (length s < at + w) × (k ≡ cut_of (at + w)) → Missed w s at k
missed_of p = record { past = p.0; why = p.1 }

module _ (big : Bool) (w : ℕ) (s : List ℕ) (at : ℕ) {r : Result ℕ Refusal} (e : r ≡ read_of Ok Err big w s at) where
  pub found : {n : ℕ} → r ≡ Ok n → Found big w s at n
  found f = found_of_lem (told_value Ok Err answer_read (λ n. n ∷ []) (λ n. refl) (λ k. refl) big w s at e (ap answer_read f))

  pub missed : {k : Refusal} → r ≡ Err k → Missed w s at k
  missed f = missed_of (told_cut Ok Err answer_read (λ n. n ∷ []) (λ n. refl) (λ k. refl) big w s at e (ap answer_read f))

abbrev sees : {A : Type 0} → Result A Refusal → Answer
sees (Ok x) = accepted []
sees (Err k) = refused k

pub ok_not_err : {A : Type 0} {x : A} {k : Refusal} → ◌≡◌ {A = Result A Refusal} (Ok x) (Err k) → ⊥
ok_not_err e = never (ap sees e)

pub same_ok : {A : Type 0} {x y : A} → ◌≡◌ {A = Result A Refusal} (Ok x) (Ok y) → x ≡ y
same_ok e = cc

pub same_err : {A : Type 0} {k j : Refusal} → ◌≡◌ {A = Result A Refusal} (Err k) (Err j) → k ≡ j
same_err e = cc

-- the same at any type of numbers: whether the field is in the bytes
module _ {A : Type 0} (of : ℕ → A) (big : Bool) (w : ℕ) (s : List ℕ) (at : ℕ) {r : Result A Refusal}
    (e : r ≡ read_of (λ n. Ok (of n)) Err big w s at) where
  pub found_inside : {x : A} → r ≡ Ok x → at + w ≤ length s
  found_inside f = (told_value (λ n. Ok (of n)) Err sees (λ n. []) (λ n. refl) (λ k. refl) big w s at e (ap sees f)).0

  pub missed_past : {k : Refusal} → r ≡ Err k → length s < at + w
  missed_past f = (told_cut (λ n. Ok (of n)) Err sees (λ n. []) (λ n. refl) (λ k. refl) big w s at e (ap sees f)).0

  pub found_value : {x : A} → r ≡ Ok x → x ≡ of (number_at big w s at)
  found_value f = same_ok (sym f ∙ e ∙ sym (field_value (λ n. Ok (of n)) Err big w s at (found_inside f) refl))

  pub missed_why : {k : Refusal} → r ≡ Err k → k ≡ cut_of (at + w)
  missed_why f = same_err (sym f ∙ e ∙ sym (field_cut (λ n. Ok (of n)) Err big w s at (missed_past f) refl))

-- Reading, by the bytes of the field.
module _ (w : ℕ) (s : List ℕ) (at : ℕ) where
  pub part_value : {bs : List ℕ} → at + w ≤ length s → bs ≡ take w (drop at s) → Ok bs ≡ bytes_at_of w s at
  unfolding bytes_at_of
  part_value h e = rw (le-leb (at + w) (length s) h, e) refl

  pub part_cut : {k : Refusal} → length s < at + w → k ≡ cut_of (at + w) → Err k ≡ bytes_at_of w s at
  unfolding bytes_at_of
  part_cut h e = rw (lt-leb (at + w) (length s) h, e) refl

-- what a field whose bytes were found says of them, and of the number that they spell
module _ (w : ℕ) (s : List ℕ) (at : ℕ) {r : Result (List ℕ) Refusal} (e : r ≡ bytes_at_of w s at) where
  part_found : {bs : List ℕ} → r ≡ Ok bs → (at + w ≤ length s) × (bs ≡ take w (drop at s))
  part_found f =
      ⊎_elim
      (λ h. (h, same_ok (sym f ∙ e ∙ sym (part_value w s at h refl))))
      (λ h. absurd (ok_not_err (sym f ∙ e ∙ sym (part_cut w s at h refl))))
      (le_or_lt (at + w) (length s))

  part_missed : {k : Refusal} → r ≡ Err k → (length s < at + w) × (k ≡ cut_of (at + w))
  part_missed f =
      ⊎_elim
      (λ h. absurd (ok_not_err (part_value w s at h refl ∙ sym e ∙ f)))
      (λ h. (h, same_err (sym f ∙ e ∙ sym (part_cut w s at h refl))))
      (le_or_lt (at + w) (length s))

  pub part_length : {bs : List ℕ} → r ≡ Ok bs → length bs ≡ w
  part_length f =
      let p = part_found f in
      ap length p.1 ∙ simp (length-take, length-drop) (omega (arith, p.0))

  pub part_number : (big : Bool) {bs : List ℕ} {n : ℕ} → r ≡ Ok bs → n ≡ number_at big w bs 0 → Ok n ≡ read_of Ok Err big w s at
  unfolding number_at
  part_number big f g =
      let p = part_found f in
      field_value Ok Err big w s at p.0 (g ∙ rw (p.1, take-take w w (drop at s) (omega arith)) refl)

  pub part_none : (big : Bool) {q : Result ℕ Refusal} {k : Refusal} → r ≡ Err k → q ≡ Err k → q ≡ read_of Ok Err big w s at
  part_none big f g = let p = part_missed f in g ∙ field_cut Ok Err big w s at p.0 p.1

-- one byte is the same in either order
pub byte_order : (big : Bool) (s : List ℕ) (at : ℕ) {n : ℕ} → Found false 1 s at n → Found big 1 s at n
byte_order big s at f =
    record { inside = f.inside; value = f.value ∙ number_one false s at f.inside ∙ sym (number_one big s at f.inside) }

-- a field of twice the width, from the two halves that were found
pub halves_found : (big : Bool) (w : ℕ) (s : List ℕ) (at i : ℕ) {a b n : ℕ} → Found big w s at a → Found big w s i b → i ≡ at + w
    → n ≡ joined big w a b → Found big (w + w) s at n
halves_found big w s at i {a} {b} f g e j =
    let h : at + (w + w) ≤ length s = omega (arith, g.inside) in
    record { inside = h; value = j ∙ rw (f.value, g.value, e, number_joined big w s at h) }

-- the one byte that a list has
pub set_only : (o : List ℕ) (n : ℕ) → length o ≡ 1 → set o 0 n ≡ n ∷ []
set_only (b ∷ []) n h = refl
set_only [] n h = absurd (let k : 1 ≤ 0 = omega arith in not-suc-le-zero k)
set_only (a ∷ b ∷ o) n h = absurd (let k : 1 ≤ 0 = omega arith in not-suc-le-zero k)

-- Putting bytes.
pub put_sets : (o : List ℕ) (at : ℕ) (bs : List ℕ) → at + length bs ≤ length o → sets o at bs ≡ put o at bs
unfolding put
put_sets o at bs h = sets-eq bs o at h

sets_both : (o : List ℕ) (at : ℕ) (a b : List ℕ) → sets (sets o at a) (at + length a) b ≡ sets o at (a ++ b)
sets_both o at [] b = rw (add-zero at)
sets_both o at (x ∷ a) b = let e : at + suc (length a) ≡ suc at + length a = omega arith in rw e (sets_both (set o at x) (suc at) a b)

pub length_put : (o : List ℕ) (at : ℕ) (bs : List ℕ) → at + length bs ≤ length o → length (put o at bs) ≡ length o
length_put o at bs h = rw (← put_sets o at bs h) (length-sets o at bs)

-- what is put after what was put is put as one
pub put_both : (o : List ℕ) (at m : ℕ) (a b : List ℕ) → m ≡ at + length a → at + length a + length b ≤ length o
    → put (put o at a) m b ≡ put o at (a ++ b)
put_both o at m a b e h =
    let l : length (sets o at a) ≡ length o = length-sets o at a in
    rw (
      e,
      ← put_sets o at a (omega arith),
      ← put_sets (sets o at a) (at + length a) b (omega arith),
      ← put_sets o at (a ++ b)
          (omega (arith, length-append a b)),
    ) (sets_both o at a b)

-- one byte, as the code stores it
pub put_one : (big : Bool) (o : List ℕ) (at n : ℕ) → at + 1 ≤ length o → n < 256 → set o at n ≡ put o at (bytes_of big 1 n)
put_one big o at n h l = rw (bytes_one big n l) (put_sets o at (n ∷ []) h)

-- a byte that was put is put in either order
pub put_order : (big : Bool) (o l : List ℕ) (at n : ℕ) → n < 256 → l ≡ put o at (bytes_of false 1 n) → l ≡ put o at (bytes_of big 1 n)
put_order big o l at n h e = e ∙ rw (bytes_one false n h, bytes_one big n h)

-- two halves that are put one after the other are the number that they join to
pub put_joined : (big t : Bool) → big ≡ t → (w a b n : ℕ) (o l m : List ℕ) (at i : ℕ) → at + (w + w) ≤ length o → a < 256 ^ w → b < 256 ^ w
    → n ≡ joined t w a b → l ≡ put o at (bytes_of big w a) → i ≡ at + w → m ≡ put l i (bytes_of big w b)
    → m ≡ put o at (bytes_of big (w + w) n)
put_joined big t et w a b n o l m at i h ha hb en el ei em =
    let la : length (bytes_of big w a) ≡ w = length_bytes big w a in
    let lb : length (bytes_of big w b) ≡ w = length_bytes big w b in
    let j : put (put o at (bytes_of big w a)) i (bytes_of big w b) ≡ put o at (bytes_of big w a ++ bytes_of big w b) = put_both o at i
    (bytes_of big w a) (bytes_of big w b) (omega arith) (omega arith) in
    em ∙ rw (el, j, en, ← et, bytes_joined big w a b ha hb)

-- bytes written to a part of a buffer are put where the part begins
pub put_part : (w : ℕ) (o : List ℕ) (at : ℕ) {bs l : List ℕ} → length bs ≡ w → l ≡ bs → put_mid at (at + w - at) o l ≡ put o at bs
unfolding put
put_part w o at {bs} h e =
    let k : at + w - at ≡ w = omega arith in
    rw (e, k, h, drop-drop w at o) (sym (append_assoc (take at o) bs (drop (at + w) o)))

-- Storing bytes of a length that the code has tested for.
module _ (w : ℕ) (o : List ℕ) (at : ℕ) (bs : List ℕ) (lb : length bs ≡ w) where
  pub store_done : {l : List ℕ} → at + w ≤ length o → l ≡ put o at bs → (Ok tt ≡ write_of w o at) × (l ≡ stored o at bs)
  unfolding write_of stored
  store_done h e = rw (lb, le-leb (at + w) (length o) h) (refl, e)

  pub store_refused : {k : Refusal} → length o < at + w → k ≡ refuse_of room → (Err k ≡ write_of w o at) × (o ≡ stored o at bs)
  unfolding write_of stored
  store_refused h e = rw (lb, lt-leb (at + w) (length o) h, e) (refl, refl)

  -- what was stored where there is room was put
  pub stored_put : {l : List ℕ} → at + w ≤ length o → l ≡ stored o at bs → l ≡ put o at bs
  unfolding stored
  stored_put h e = e ∙ rw (lb, le-leb (at + w) (length o) h)

-- a number that was written as its bytes
pub written_as : (big : Bool) (w n : ℕ) (o : List ℕ) (at : ℕ) {bs l : List ℕ} {r : Result Unit Refusal} → bs ≡ bytes_of big w n
    → (r ≡ write_of (length bs) o at) × (l ≡ stored o at bs) → (r ≡ write_of w o at) × (l ≡ write_out big w o at n)
written_as big w n o at q e =
    (e.0 ∙ ap (λ k. write_of k o at) (ap length q ∙ length_bytes big w n), e.1 ∙ ap (λ x. stored o at x) q)

-- a write that has room is not refused
pub not_refused : (w : ℕ) (o : List ℕ) (at : ℕ) {r : Result Unit Refusal} {k : Refusal} → at + w ≤ length o → r ≡ write_of w o at
    → r ≡ Err k → ⊥
unfolding write_of
not_refused w o at h e f =
    let d : ◌≡◌ {A = Result Unit Refusal} (Ok tt) (write_of w o at) = rw (le-leb (at + w) (length o) h) refl in
    ok_not_err (d ∙ sym e ∙ f)
