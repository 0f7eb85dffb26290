-- What the end of a search tells, on any table: the record that it names holds the address, or is not there.
-- Assumes nothing.
use mathlib.Core.Path.{◌≡◌}
use mathlib.Core.Logic.{⊎_elim}
use mathlib.Core.Bool.{true, false}
use Prim.Native.Nat.{ℕ, zero, suc, ◌+◌, ◌-◌, ◌≤◌, ◌<◌}
use native.Mathlib.Omega.{arith}
use Rattle.fields.proofs.Laws.{le_or_lt}
use Rattle.runtime_table.specs.Table.{Table}
use Rattle.runtime_lookup.specs.Halving.{Ending, Holds, Gone, Nothing, Halved, middle, search_from, among, halving}
use Rattle.runtime_lookup.specs.Code.{Looked}
use Rattle.runtime_lookup.proofs.Turns.{from_none, from_empty, from_gone, from_holds, from_before, from_after, Turn, At-gone, At-holds, At-before, At-after, turn_at}

-- the record at `i`, from `low` up to but not including `high`, is there and holds the address
pub record Held (t : Table) (a low high i : ℕ) : Type 0 where
  pub from : low ≤ i
  pub below : i < high
  pub there : t.there i ≡ true
  pub begun : t.begin i ≤ a
  pub unended : a < t.end i

-- the record at `i` is not there
pub record Missing (t : Table) (low high i : ℕ) : Type 0 where
  pub from : low ≤ i
  pub below : i < high
  pub gone : t.there i ≡ false

-- what an ending says, with so many records read
abbrev pub Says : Table → ℕ → ℕ → ℕ → Ending → ℕ → Type 0
Says t a low high (Holds i) n = Held t a low high i × (1 ≤ n)
Says t a low high (Gone i) n = Missing t low high i
Says t a low high Nothing n = Unit

-- it says it of any window around, with a record more
wider : (t : Table) (a low high l r : ℕ) (o : Ending) (n : ℕ) → l ≤ low → high ≤ r → Says t a low high o n → Says t a l r o (1 + n)
wider t a low high l r (Holds i) n p q (h, k) = (
  record { from = omega (arith, h.from); below = omega (arith, h.below); there = h.there; begun = h.begun; unended = h.unended },
  omega arith,
)
wider t a low high l r (Gone i) n p q h = record { from = omega (arith, h.from); below = omega (arith, h.below); gone = h.gone }
wider t a low high l r Nothing n p q h = tt

abbrev SaysOf : Table → ℕ → ℕ → ℕ → Halved → Type 0
SaysOf t a low high h = Says t a low high h.ending h.reads

module _ (t : Table) (a : ℕ) where
  from_says : (turns low high : ℕ) → SaysOf t a low high (search_from t a turns low high)
  from_says zero low high = rw (from_none t a low high) tt
  from_says (suc turns) low high =
      ⊎_elim
      (λ e. rw (from_empty t a (suc turns) low high e) tt)
      (λ l. by l (turn_at t a (middle low high)) (from_says turns low (middle low high)) (from_says turns (suc (middle low high)) high))
      (le_or_lt high low)
    where
      by : low < high → Turn t a (middle low high) → SaysOf t a low (middle low high) (search_from t a turns low (middle low high))
          → SaysOf t a (suc (middle low high)) high (search_from t a turns (suc (middle low high)) high)
          → SaysOf t a low high (search_from t a (suc turns) low high)
      by l (At-gone g) x y =
          rw (from_gone t a turns low high l g) (record { from = omega arith; below = omega arith; gone = g })
      by l (At-holds g p q) x y =
          rw
          (from_holds t a turns low high l g p q)
          (record { from = omega arith; below = omega arith; there = g; begun = p; unended = q }, omega arith)
      by l (At-before g p) x y =
          rw (from_before t a turns low high l g p)
          (wider t a low (middle low high) low high (search_from t a turns low (middle low high)).ending
          (search_from t a turns low (middle low high)).reads (omega arith) (omega arith) x)
      by l (At-after g p q) x y =
          rw (from_after t a turns low high l g p q)
          (wider t a (suc (middle low high)) high low high (search_from t a turns (suc (middle low high)) high).ending
          (search_from t a turns (suc (middle low high)) high).reads (omega arith) (omega arith) y)

  halving_says : (count : ℕ) → SaysOf t a 0 count (halving t a count)
  unfolding halving among
  halving_says count = from_says (count - 0) 0 count

  -- a record that is found holds the address
  pub holds_told : (count i : ℕ) → (halving t a count).ending ≡ Holds i → Held t a 0 count i
  holds_told count i e = by (halving t a count).ending e (halving_says count)
    where
      by : (o : Ending) → o ≡ Holds i → Says t a 0 count o (halving t a count).reads → Held t a 0 count i
      by (Holds j) e s = let k : j ≡ i = cc in rw k at s.0
      by (Gone j) e s = absurd (let z : ◌≡◌ {A = ℕ} 0 1 = cc in omega arith)
      by Nothing e s = absurd (let z : ◌≡◌ {A = ℕ} 0 1 = cc in omega arith)

  -- a record that is missed is not there
  pub gone_told : (count i : ℕ) → (halving t a count).ending ≡ Gone i → Missing t 0 count i
  gone_told count i e = by (halving t a count).ending e (halving_says count)
    where
      by : (o : Ending) → o ≡ Gone i → Says t a 0 count o (halving t a count).reads → Missing t 0 count i
      by (Gone j) e s = let k : j ≡ i = cc in rw k at s
      by (Holds j) e s = absurd (let z : ◌≡◌ {A = ℕ} 0 1 = cc in omega arith)
      by Nothing e s = absurd (let z : ◌≡◌ {A = ℕ} 0 1 = cc in omega arith)

  looked_by : (o : Ending) (low high n : ℕ) → Says t a low high o n → Looked o n
  looked_by (Holds i) low high n s = s.1
  looked_by (Gone i) low high n s = tt
  looked_by Nothing low high n s = tt

  -- a search that finds has read a record
  pub looked : (count : ℕ) → Looked (halving t a count).ending (halving t a count).reads
  looked count = looked_by (halving t a count).ending 0 count (halving t a count).reads (halving_says count)
