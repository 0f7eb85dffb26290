-- The laws that the proofs of readers cite: what an answer of a cursor tells.
-- Assumes nothing.
use Rattle.std.proofs.Common.{◌≡◌, refl, ap, ℕ, ◌+◌, ◌≤◌, List, Bool, length, Result, Ok, Err, arith}
use Rattle.answer.specs.declared.Refusal.{Refusal}
use Rattle.fields.specs.Number.{number_at}
use Rattle.fields.specs.Field.{read_of}
use Rattle.fields.proofs.Laws.{Missed, found_inside, found_value, missed_past, missed_why, field_value, field_cut}
use Rattle.cursor.specs.Next.{new_of, next_of, taken}
use Rattle.cursor.specs.declared.Cursor.{Cursor}

-- where a new cursor stands
pub new_at : {c : Cursor} {at : ℕ} → c ≡ new_of at → c.at ≡ at
new_at e = ap (λ (c : Cursor). c.at) e

-- from the code's side
module _ {A : Type 0} (taken : ℕ → Cursor → A) (refusal : Refusal → A) (big : Bool) (w : ℕ) (s : List ℕ) (at : ℕ) where
  pub next_value : {n : ℕ} → at + w ≤ length s → n ≡ number_at big w s at
      → taken n (record { at = at + w }) ≡ next_of taken refusal big w s at
  unfolding next_of
  next_value h e = field_value (λ n. taken n (record { at = at + w })) refusal big w s at h e

  pub next_missed : {k : Refusal} → Missed w s at k → refusal k ≡ next_of taken refusal big w s at
  unfolding next_of
  next_missed m = field_cut (λ n. taken n (record { at = at + w })) refusal big w s at m.past m.why

-- the same at any type of numbers, from what a read of the field tells
module _ {A : Type 0} (of : ℕ → A) (big : Bool) (w : ℕ) (s : List ℕ) (at : ℕ) {r : Result A Refusal}
    (e : r ≡ read_of (λ n. Ok (of n)) Err big w s at) where
  pub next_read : {x : A} {u : ℕ} → u ≡ w → r ≡ Ok x → taken x (record { at = at + u }) ≡ next_of (λ n k. taken (of n) k) Err big w s at
  next_read u f =
      rw (u, found_value of big w s at e f) (next_value (λ n k. taken (of n) k) Err big w s at (found_inside of big w s at e f) refl)

  pub next_lost : {q : Refusal} → r ≡ Err q → Err q ≡ next_of (λ n k. taken (of n) k) Err big w s at
  next_lost f =
      next_missed (λ n k. taken (of n) k) Err big w s at
      (record { past = missed_past of big w s at e f; why = missed_why of big w s at e f })

-- what a read that found its number says of the number and of the place past it
pub record Took (big : Bool) (w : ℕ) (s : List ℕ) (at n next : ℕ) : Type 0 where
  pub inside : at + w ≤ length s
  pub value : n ≡ number_at big w s at
  pub past : next ≡ at + w

-- From the reader's side, at any type of numbers.
module _ {A : Type 0} (of : ℕ → A) (big : Bool) (w : ℕ) (s : List ℕ) (at : ℕ) {r : Result (A × Cursor) Refusal}
    (e : r ≡ next_of (λ n k. taken (of n) k) Err big w s at) where
  pub next_inside : {x : A} {j : Cursor} → r ≡ Ok (x, j) → at + w ≤ length s
  unfolding next_of
  next_inside f = found_inside (λ n. (of n, record { at = at + w })) big w s at e f

  pub next_both : {x : A} {j : Cursor} → r ≡ Ok (x, j) → ◌≡◌ {A = A × Cursor} (x, j) (of (number_at big w s at), record { at = at + w })
  unfolding next_of
  next_both f = found_value (λ n. (of n, record { at = at + w })) big w s at e f

  pub next_cut : {q : Refusal} → r ≡ Err q → Missed w s at q
  unfolding next_of
  next_cut f =
      record {
        past = missed_past (λ n. (of n, record { at = at + w })) big w s at e f;
        why = missed_why (λ n. (of n, record { at = at + w })) big w s at e f;
      }

-- Of numbers.
module _ (big : Bool) (w : ℕ) (s : List ℕ) {k : Cursor} {r : Result (ℕ × Cursor) Refusal} (e : r ≡ next_of taken Err big w s k.at) where
  pub took : {n : ℕ} {j : Cursor} → r ≡ Ok (n, j) → Took big w s k.at n j.at
  took f =
      let v = next_both (λ n. n) big w s k.at e f in
      record { inside = next_inside (λ n. n) big w s k.at e f; value = ap (λ x. x.0) v; past = ap (λ x. x.1.at) v }

  pub cut : {q : Refusal} → r ≡ Err q → Missed w s k.at q
  cut f = next_cut (λ n. n) big w s k.at e f

-- The same, at any type of numbers, for an answer that holds both in a way of its own.
module _ {A B : Type 0} (of : ℕ → A) (give : A → Cursor → B) (big : Bool) (w : ℕ) (s : List ℕ) (at : ℕ) {k : Cursor} {r : Result (A × Cursor) Refusal}
    (z : k ≡ new_of at) (e : r ≡ next_of (λ n c. taken (of n) c) Err big w s k.at) where
  pub next_given : {x : A} {j : Cursor} → r ≡ Ok (x, j) → Ok (give x j) ≡ next_of (λ n c. Ok (give (of n) c)) Err big w s at
  next_given f =
      let i : k.at ≡ at = new_at z in
      let v = next_both of big w s k.at e f in
      let l : at + w ≤ length s = omega (arith, next_inside of big w s k.at e f, i) in
      rw (ap (λ x. x.0) v, ap (λ x. x.1) v, i) (next_value (λ n c. Ok (give (of n) c)) Err big w s at l refl)

  pub next_refused : {q : Refusal} → r ≡ Err q → Err q ≡ next_of (λ n c. Ok (give (of n) c)) Err big w s at
  next_refused f =
      let i : k.at ≡ at = new_at z in
      next_missed (λ n c. Ok (give (of n) c)) Err big w s at (rw i at (next_cut of big w s k.at e f))
