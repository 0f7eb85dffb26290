-- How many records a search reads: at most 26, whatever the bytes and the numbers.
-- Assumes nothing.
use mathlib.Core.Path.{◌≡◌, ap}
use mathlib.Core.Logic.{⊎_elim}
use mathlib.Core.List.{List}
use mathlib.Core.Bool.{true}
use Prim.Native.Nat.{ℕ, zero, suc, ◌+◌, ◌^◌, ◌≤◌, ◌<◌}
use native.Mathlib.Omega.{arith}
use lib.ListN.{length}
use borrow.Author.Tests.{leb-true}
use Rattle.answer.specs.Test.{file_limit}
use Rattle.fields.proofs.Laws.{le_or_lt}
use Rattle.runtime_table.specs.Table.{Table, place_of, table_of}
use Rattle.runtime_lookup.specs.Halving.{Halved, middle, search_from, halving}
use Rattle.runtime_lookup.specs.Lookup.{read_limit}
use Rattle.runtime_lookup.proofs.Turns.{from_none, from_empty, from_gone, from_holds, from_before, from_after, among_from, among_empty, Turn, At-gone, At-holds, At-before, At-after, turn_at}

abbrev reads : Halved → ℕ
reads h = h.reads

module _ (t : Table) (a : ℕ) where
  -- among fewer than 2 ^ k records at most k are read
  pub reads_most : (k turns low high : ℕ) → high < low + 2 ^ k → (search_from t a turns low high).reads ≤ k
  reads_most k zero low high h = omega (arith, ap reads (from_none t a low high))
  reads_most zero (suc turns) low high h = omega (arith, ap reads (from_empty t a (suc turns) low high (omega arith)))
  reads_most (suc k) (suc turns) low high h =
      ⊎_elim
      (λ e. omega (arith, ap reads (from_empty t a (suc turns) low high e)))
      (λ l. by l (turn_at t a (middle low high)) (reads_most k turns low (middle low high) (omega arith))
      (reads_most k turns (suc (middle low high)) high (omega arith)))
      (le_or_lt high low)
    where
      by : low < high → Turn t a (middle low high) → (search_from t a turns low (middle low high)).reads ≤ k
          → (search_from t a turns (suc (middle low high)) high).reads ≤ k → (search_from t a (suc turns) low high).reads ≤ suc k
      by l (At-gone g) x y = omega (arith, ap reads (from_gone t a turns low high l g))
      by l (At-holds g p q) x y = omega (arith, ap reads (from_holds t a turns low high l g p q))
      by l (At-before g p) x y = omega (arith, ap reads (from_before t a turns low high l g p))
      by l (At-after g p q) x y = omega (arith, ap reads (from_after t a turns low high l g p q))

  -- a table whose first look tells that it has fewer than 2 ^ 26 records
  reads_first : (count : ℕ) → (t.there (middle 0 count) ≡ true → count < 2 ^ 26) → (halving t a count).reads ≤ read_limit
  unfolding halving
  reads_first zero h = omega (arith, ap reads (among_empty t a 0 zero (omega arith)))
  reads_first (suc n) h =
      omega (arith, by (turn_at t a (middle 0 (suc n))), ap reads (among_from t a 0 (suc n) (suc n) (omega arith)))
    where
      by : Turn t a (middle 0 (suc n)) → (search_from t a (suc n) 0 (suc n)).reads ≤ read_limit
      by (At-gone g) = omega (arith, ap reads (from_gone t a n 0 (suc n) (omega arith) g))
      by (At-holds g p q) = reads_most 26 (suc n) 0 (suc n) (omega (arith, h g))
      by (At-before g p) = reads_most 26 (suc n) 0 (suc n) (omega (arith, h g))
      by (At-after g p q) = reads_most 26 (suc n) 0 (suc n) (omega (arith, h g))

-- the first record that is looked at lies in the file, so that the table has fewer than 2 ^ 26 records
pub reads_26 : (s : List ℕ) (table count a : ℕ) → length s ≤ file_limit → (halving (table_of s table) a count).reads ≤ read_limit
unfolding table_of
reads_26 s table count a l =
    reads_first (table_of s table) a count
    (λ g. let z : place_of table (middle 0 count) + 12 ≤ length s = leb-true _ _ g in omega arith)
