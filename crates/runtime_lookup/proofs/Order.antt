-- The search on a table in order: it finds the record that holds the address, where there is one.
-- Assumes nothing.
use mathlib.Core.Path.{◌≡◌, refl, sym, ap, ◌∙◌}
use mathlib.Core.Logic.{⊎_elim}
use mathlib.Core.Bool.{true}
use Prim.Native.Nat.{ℕ, zero, suc, ◌+◌, ◌-◌, ◌≤◌, ◌<◌}
use native.Mathlib.Omega.{arith}
use Rattle.fields.proofs.Laws.{le_or_lt}
use Rattle.runtime_table.specs.Table.{Table}
use Rattle.runtime_table.proofs.Laws.{InOrder, never_both}
use Rattle.runtime_table.proofs.Theorems.{ends_before}
use Rattle.runtime_lookup.specs.Halving.{Ending, Holds, Gone, Nothing, Halved, middle, search_from, among, halving}
use Rattle.runtime_lookup.proofs.Turns.{from_holds, from_before, from_after, Turn, At-gone, At-holds, At-before, At-after, turn_at}
use Rattle.runtime_lookup.proofs.Ends.{Held, holds_told, gone_told}

abbrev end : Halved → Ending
end h = h.ending

-- every record is there, and they are in order
pub record Sorted (t : Table) (count : ℕ) : Type 0 where
  pub whole : (i : ℕ) → i < count → t.there i ≡ true
  pub order : InOrder t count

module _ (t : Table) (a count : ℕ) (o : Sorted t count) where
  clash : (p q : ℕ) → Held t a 0 count p → Held t a 0 count q → p < q → ⊥
  clash p q x y l = omega (arith, ends_before t count o.order p q l y.below, x.unended, y.begun)

  -- one record at most holds an address
  pub only : (i j : ℕ) → Held t a 0 count i → Held t a 0 count j → i ≡ j
  only i j x y =
      ⊎_elim
      (λ h. ⊎_elim (λ k. omega arith) (λ k. absurd (clash i j x y k)) (le_or_lt j i))
      (λ h. absurd (clash j i y x h))
      (le_or_lt i j)

  -- a record that holds the address is before one that begins past it
  left_of : (i m : ℕ) → i < count → m < count → t.begin i ≤ a → a < t.begin m → i < m
  left_of i m h k p q =
      ⊎_elim
      (λ l.
      absurd
      (⊎_elim
      (λ e. let s : m ≡ i = omega arith in omega (arith, ap t.begin s))
      (λ e. omega (arith, ends_before t count o.order m i e h, o.order.proper m k))
      (le_or_lt i m)))
      (λ l. l)
      (le_or_lt m i)

  -- and after one that ends at or before it
  right_of : (i m : ℕ) → m < count → a < t.end i → t.end m ≤ a → m < i
  right_of i m k p q =
      ⊎_elim
      (λ l.
      absurd
      (⊎_elim
      (λ e. let s : m ≡ i = omega arith in omega (arith, ap t.end s))
      (λ e. omega (arith, ends_before t count o.order i m e k, o.order.proper m k))
      (le_or_lt m i)))
      (λ l. l)
      (le_or_lt i m)

  complete : (turns low high i : ℕ) → high ≤ low + turns → high ≤ count → Held t a low high i
      → (search_from t a turns low high).ending ≡ Holds i
  complete zero low high i f c h = absurd (omega (arith, h.from, h.below))
  complete (suc turns) low high i f c h =
      by
      (omega (arith, h.from, h.below))
      (turn_at t a (middle low high))
      (complete turns low (middle low high) i (omega (arith, h.from, h.below)) (omega (arith, h.from, h.below)))
      (complete turns (suc (middle low high)) high i (omega (arith, h.from, h.below)) c)
    where
      by : low < high → Turn t a (middle low high)
          → (Held t a low (middle low high) i → (search_from t a turns low (middle low high)).ending ≡ Holds i)
          → (Held t a (suc (middle low high)) high i → (search_from t a turns (suc (middle low high)) high).ending ≡ Holds i)
          → (search_from t a (suc turns) low high).ending ≡ Holds i
      by l (At-gone g) x y = absurd (never_both (sym (o.whole (middle low high) (omega arith)) ∙ g))
      by l (At-holds g p q) x y =
          ap end (from_holds t a turns low high l g p q)
          ∙ ap
          Holds
          (only
          (middle low high)
          i
          (record { from = omega arith; below = omega arith; there = g; begun = p; unended = q })
          (record { from = omega arith; below = omega (arith, h.below); there = h.there; begun = h.begun; unended = h.unended }))
      by l (At-before g p) x y =
          ap end (from_before t a turns low high l g p)
          ∙ x (record {
            from = h.from;
            below = left_of i (middle low high) (omega (arith, h.below)) (omega arith) h.begun p;
            there = h.there;
            begun = h.begun;
            unended = h.unended;
          })
      by l (At-after g p q) x y =
          ap end (from_after t a turns low high l g p q)
          ∙ y (record {
            from = right_of i (middle low high) (omega arith) h.unended q;
            below = h.below;
            there = h.there;
            begun = h.begun;
            unended = h.unended;
          })

  -- the record that holds the address is found
  pub holder_found : (i : ℕ) → Held t a 0 count i → (halving t a count).ending ≡ Holds i
  unfolding halving among
  holder_found i h = complete (count - 0) 0 count i (omega arith) (omega arith) h

  -- where none does, nothing is found
  pub none_found : ((i : ℕ) → Held t a 0 count i → ⊥) → (halving t a count).ending ≡ Nothing
  none_found n = by (halving t a count).ending refl
    where
      by : (r : Ending) → (halving t a count).ending ≡ r → r ≡ Nothing
      by (Holds i) e = absurd (n i (holds_told t a count i e))
      by (Gone i) e = let m = gone_told t a count i e in absurd (never_both (sym (o.whole i m.below) ∙ m.gone))
      by Nothing e = refl
