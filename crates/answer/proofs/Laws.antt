-- What proofs cite of a check, which goes on or refuses, and of the refusal at a missing field.
-- Assumes nothing.
use mathlib.Core.Path.{◌≡◌, ap, ◌∙◌}
use mathlib.Core.List.{List}
use mathlib.Core.Bool.{Bool, true, false}
use Prim.Native.Nat.{ℕ, ◌^◌, ◌≤◌, ◌<◌}
use borrow.Author.Tests.{lt-ltb, le-ltb}
use Rattle.answer.specs.declared.Reason.{Reason}
use Rattle.answer.specs.declared.Refusal.{Refusal}
use Rattle.answer.specs.Answer.{Answer, number, values, refuse_of, cut_of, beyond_of, short}
use Rattle.answer.specs.Test.{must}

module _ {A : Type 0} (refusal : Refusal → A) (test : Bool) (why : Reason) (on : A) where
  pub must_on : {x : A} → test ≡ true → x ≡ on → x ≡ must refusal test why on
  unfolding must
  must_on t e = rw (t, e)

  pub must_off : {q : Refusal} → test ≡ false → q ≡ refuse_of why → refusal q ≡ must refusal test why on
  unfolding must
  must_off t e = rw (t, e)

-- a field that ends past 64 bits
pub cut_beyond : (end : ℕ) → 2 ^ 64 ≤ end → beyond_of ≡ cut_of end
unfolding cut_of
cut_beyond end h = rw (le-ltb end (2 ^ 64) h)

-- a field that ends within 64 bits, as the code makes the refusal
pub cut_within : (end : ℕ) → end < 2 ^ 64 → refuse_of short ≡ cut_of end
unfolding cut_of
cut_within end h = rw (lt-ltb end (2 ^ 64) h)

-- What a C function answers and stores, from the answer of the door that it calls: its number and its values, and the lent bytes or list.
module _ {E : Type 0} (answer : E → Answer) where
  pub told : (n : ℕ) {a d : E} {r : ℕ} {l : List ℕ} → a ≡ d → r ≡ number (answer a) → l ≡ values n (answer a) →
      (r ≡ number (answer d)) × (l ≡ values n (answer d))
  told n e f g = (f ∙ ap (λ a. number (answer a)) e, g ∙ ap (λ a. values n (answer a)) e)

  pub told_bytes : {a d : E} {r : ℕ} {l m : List ℕ} → (a ≡ d) × (l ≡ m) → r ≡ number (answer a) → (r ≡ number (answer d)) × (l ≡ m)
  told_bytes e f = (f ∙ ap (λ a. number (answer a)) e.0, e.1)

  pub told_list : (n : ℕ) {a d : E} {r : ℕ} {v l m : List ℕ} → (a ≡ d) × (l ≡ m) → r ≡ number (answer a) → v ≡ values n (answer a) →
      (r ≡ number (answer d)) × (v ≡ values n (answer d)) × (l ≡ m)
  told_list n e f g = (f ∙ ap (λ a. number (answer a)) e.0, g ∙ ap (λ a. values n (answer a)) e.0, e.1)
