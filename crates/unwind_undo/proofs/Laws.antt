-- How what the small functions answer settles how a definition goes on.
-- Assumes nothing.
use Rattle.std.proofs.Common.{◌≡◌, refl, sym, ap, ◌∙◌, ℕ, ◌+◌, ◌-◌, ◌^◌, ◌≤◌, ◌<◌, Bool, true, false, List, Option, Some, None, arith}
use borrow.Author.Tests.{le-leb, lt-leb, lt-ltb, le-ltb}
use lib.Dec.{leb, ltb, eqb}
use Rattle.answer.specs.Test.{pick}
use Rattle.unwind_array.specs.Arrays.{Frame}
use Rattle.unwind_state.specs.State.{gpr, rsp, with_gpr, with_rsp, Window, word_at}
use Rattle.unwind_state.specs.Code.{word_at_of}
use Rattle.unwind_state.specs.declared.State.{State}
use Rattle.unwind_undo.specs.Undo.{Undone, on, lost, within, less, on_word, word, undo_push}
use Rattle.unwind_undo.specs.Code.{window_of, frame_at, word_of, base_of, on_place, saved_of, base_here}

-- an address, and one less an offset
module _ (a : ℕ) (k : ℕ → Undone) where
  pub sum_there : a < 2 ^ 64 → within a k ≡ k a
  sum_there h = rw (lt-ltb a (2 ^ 64) h)

  pub sum_beyond : 2 ^ 64 ≤ a → within a k ≡ lost
  sum_beyond h = rw (le-ltb a (2 ^ 64) h)

  pub less_there : (n : ℕ) → n ≤ a → less a n k ≡ k (a - n)
  less_there n h = rw (le-leb n a h)

  pub less_beyond : (n : ℕ) → a < n → less a n k ≡ lost
  less_beyond n h = rw (lt-leb n a h)

word_by : (t : Bool) (d : Option ℕ) (k : ℕ → Undone) → pick t (on_word d k) lost ≡ on_place (pick t d None) lost k
word_by true (Some v) k = refl
word_by true None k = refl
word_by false d k = refl

-- a stack word
module _ (words : List ℕ) (base a : ℕ) (k : ℕ → Undone) where
  word_is : word (window_of words base) a k ≡ on_place (word_of words base a) lost k
  unfolding word_of
  word_is = word_by (ltb a (2 ^ 64)) (word_at (window_of words base) a) k

  word_told : {b : ℕ} {x : Option ℕ} (y : Option ℕ) → b ≡ a → x ≡ word_of words base b → x ≡ y
      → word (window_of words base) a k ≡ on_place y lost k
  word_told y d e f = word_is ∙ ap (λ w. on_place w lost k) (sym (sym f ∙ e ∙ ap (word_of words base) d))

  pub word_held : {b v : ℕ} {x : Option ℕ} → b ≡ a → x ≡ word_of words base b → x ≡ Some v → word (window_of words base) a k ≡ k v
  word_held {b} {v} d e f = word_told (Some v) d e f

  pub word_gone : {b : ℕ} {x : Option ℕ} → b ≡ a → x ≡ word_of words base b → x ≡ None → word (window_of words base) a k ≡ lost
  word_gone d e f = word_told None d e f

-- what `word_above` answers
module _ (words : List ℕ) (base a : ℕ) where
  pub word_there : {b : ℕ} {x : Option ℕ} → a < 2 ^ 64 → b ≡ a → x ≡ word_at_of words base b → x ≡ word_of words base a
  unfolding word_of
  word_there h d e = e ∙ rw (lt-ltb a (2 ^ 64) h, d)

  pub word_beyond : {x : Option ℕ} → 2 ^ 64 ≤ a → x ≡ None → x ≡ word_of words base a
  unfolding word_of
  word_beyond h e = e ∙ rw (le-ltb a (2 ^ 64) h)

-- a push, from the word that it loads
module _ (s : State) (r : ℕ) where
  abbrev popped : ℕ → ℕ → Undone
  popped v a = on (with_rsp (with_gpr s r v) a)

  abbrev pub pushed : ℕ → Undone
  pushed v = within (rsp (with_gpr s r v) + 8) (popped v)

  module _ (w : Window) (v : ℕ) (d : word w (rsp s) pushed ≡ pushed v) {t : State} (h : t ≡ with_gpr s r v) where
    pub push_on : {a : ℕ} {y : State} → rsp t + 8 < 2 ^ 64 → a ≡ rsp t + 8 → y ≡ with_gpr t 4 a → on y ≡ undo_push w r s
    push_on {a} n m l =
        let g = ap (λ (x : State). rsp x + 8) h in
        ap on (l ∙ ap (λ (x : State). with_gpr x 4 a) h)
        ∙ sym (d ∙ sum_there (rsp (with_gpr s r v) + 8) (popped v) (omega (arith, g, n)) ∙ ap (popped v) (sym (m ∙ g)))

    pub push_beyond : 2 ^ 64 ≤ rsp t + 8 → lost ≡ undo_push w r s
    push_beyond n =
        let g = ap (λ (x : State). rsp x + 8) h in
        sym (d ∙ sum_beyond (rsp (with_gpr s r v) + 8) (popped v) (omega (arith, g, n)))

-- the base of a save
module _ (k : ℕ → Undone) where
  less_by : (t : Bool) (a : ℕ) → pick t (k a) lost ≡ on_place (pick t (Some a) None) lost k
  less_by true a = refl
  less_by false a = refl

  base_by : (t : Bool) (s : State) (f : Frame)
      → pick t (k (rsp s)) (less (gpr s f.register) f.offset k)
      ≡ on_place (pick t (Some (rsp s)) (pick (leb f.offset (gpr s f.register)) (Some (gpr s f.register - f.offset)) None)) lost k
  base_by true s f = refl
  base_by false s f = less_by (leb f.offset (gpr s f.register)) (gpr s f.register - f.offset)

  base_is : (s : State) (f : Frame) → base_here s s f k ≡ on_place (base_of f.register f.offset s) lost k
  unfolding base_of
  base_is s f = base_by (eqb f.register 0) s f

on_place_lem : (w : Option ℕ) {f g : ℕ → Undone} → ((v : ℕ) → f v ≡ g v) → on_place w lost f ≡ on_place w lost g
on_place_lem (Some v) h = h v
on_place_lem None h = refl

-- a save: its word is what `saved_word` answers
module _ (s : State) (words : List ℕ) (base register offset n : ℕ) where
  abbrev w : Window
  w = window_of words base

  abbrev saved : ℕ → Option ℕ
  saved m = saved_of m register offset s words base

  saved_by : (p : Option ℕ) (k : ℕ → Undone)
      → on_place p lost (λ b. word w (b + n) k) ≡ on_place (on_place p None (λ b. word_of words base (b + n))) lost k
  saved_by (Some b) k = word_is words base (b + n) k
  saved_by None k = refl

  pair_by : (p : Option ℕ) (k : ℕ → ℕ → Undone)
      → on_place p lost (λ b. word w (b + n) (λ low. word w (b + n + 8) (k low)))
      ≡ on_place (on_place p None (λ b. word_of words base (b + n))) lost
      (λ low. on_place (on_place p None (λ b. word_of words base (b + (n + 8)))) lost (k low))
  pair_by (Some b) k =
      word_is words base (b + n) (λ low. word w (b + n + 8) (k low))
      ∙ on_place_lem (word_of words base (b + n))
      (λ low. word_is words base (b + n + 8) (k low) ∙ ap (λ a. on_place (word_of words base a) lost (k low)) (assoc b))
    where
      assoc : (b : ℕ) → b + n + 8 ≡ b + (n + 8)
      assoc b = omega arith
  pair_by None k = refl

  saved_is : (k : ℕ → Undone) → base_here s s (frame_at register offset) (λ b. word w (b + n) k) ≡ on_place (saved n) lost k
  unfolding saved_of
  saved_is k = base_is _ s (frame_at register offset) ∙ saved_by (base_of register offset s) k

  pair_is : (k : ℕ → ℕ → Undone)
      → base_here s s (frame_at register offset) (λ b. word w (b + n) (λ low. word w (b + n + 8) (k low)))
      ≡ on_place (saved n) lost (λ low. on_place (saved (n + 8)) lost (k low))
  unfolding saved_of
  pair_is k = base_is _ s (frame_at register offset) ∙ pair_by (base_of register offset s) k

  module _ {m : ℕ} (d : m ≡ n) {x : Option ℕ} (e : x ≡ saved m) where
    at_place : {y : Option ℕ} → x ≡ y → saved n ≡ y
    at_place f = sym (sym f ∙ e ∙ ap saved d)

    pub saved_held : (k : ℕ → Undone) {v : ℕ} → x ≡ Some v
        → base_here s s (frame_at register offset) (λ b. word w (b + n) k) ≡ k v
    saved_held k f = saved_is k ∙ ap (λ x. on_place x lost k) (at_place f)

    pub saved_gone : (k : ℕ → Undone) → x ≡ None → base_here s s (frame_at register offset) (λ b. word w (b + n) k) ≡ lost
    saved_gone k f = saved_is k ∙ ap (λ x. on_place x lost k) (at_place f)

    module _ (k : ℕ → ℕ → Undone) where
      pub pair_gone : x ≡ None → base_here s s (frame_at register offset) (λ b. word w (b + n) (λ low. word w (b + n + 8) (k low))) ≡ lost
      pair_gone f = pair_is k ∙ ap (λ x. on_place x lost (λ low. on_place (saved (n + 8)) lost (k low))) (at_place f)

      module _ {low : ℕ} (f : x ≡ Some low) {o : ℕ} (d2 : o ≡ n + 8) {x2 : Option ℕ} (e2 : x2 ≡ saved o) where
        pair_half : {y : Option ℕ} → x2 ≡ y
            → base_here s s (frame_at register offset) (λ b. word w (b + n) (λ low. word w (b + n + 8) (k low))) ≡ on_place y lost (k low)
        pair_half g =
            pair_is k
            ∙ ap (λ x. on_place x lost (λ low. on_place (saved (n + 8)) lost (k low))) (at_place f)
            ∙ ap (λ x. on_place x lost (k low)) (sym (sym g ∙ e2 ∙ ap saved d2))

        pub pair_held : {high : ℕ} → x2 ≡ Some high
            → base_here s s (frame_at register offset) (λ b. word w (b + n) (λ low. word w (b + n + 8) (k low))) ≡ k low high
        pair_held g = pair_half g

        pub pair_lost : x2 ≡ None
            → base_here s s (frame_at register offset) (λ b. word w (b + n) (λ low. word w (b + n + 8) (k low))) ≡ lost
        pair_lost g = pair_half g
