-- Halving, over any table: the search that says what a lookup answers on all bytes.
-- Assumes nothing.
use Rattle.std.specs.Prelude.{ℕ, zero, suc, ◌+◌, ◌-◌, ◌/◌, Bool, false, leb, ltb}
use Rattle.answer.specs.Test.{pick}
use Rattle.runtime_table.specs.Table.{Table}

-- how a search ends: the record at an index holds the address, or is looked at and is not there, or no record is left
pub data Ending : Type 0 where
  Holds : ℕ → Ending
  Gone : ℕ → Ending
  Nothing : Ending

-- a search: how it ends, and how many records it reads
pub record Halved : Type 0 where
  pub ending : Ending
  pub reads : ℕ

-- 9.1: a record holds an address at or after its begin and before its end
abbrev pub holds : Table → ℕ → ℕ → Bool
holds t a i = pick (leb (t.begin i) a) (ltb a (t.end i)) false

-- 9.4: the middle, rounded down
abbrev pub middle : ℕ → ℕ → ℕ
middle low high = (low + high) / 2

-- a search that ends so, with so many records read
abbrev pub ended : Ending → ℕ → Halved
ended o n = record { ending = o; reads = n }

-- a search before which `n` more records are read
abbrev pub plus : ℕ → Halved → Halved
plus n h = record { ending = h.ending; reads = n + h.reads }

-- the search among the records from `low` up to but not including `high`, in so many turns at most; each turn leaves fewer records, so
-- that as many turns as there are records are enough (`search_is`, in proofs/Theorems.antt, says it without them)
unfoldable pub search_from : Table → ℕ → ℕ → ℕ → ℕ → Halved
search_from t a zero low high = ended Nothing 0
search_from t a (suc turns) low high =
    -- 9.6: no record is left
    pick (leb high low)
    (ended Nothing 0)
    -- 9.7: a record that is looked at and is not wholly there is not read
    (pick (t.there (middle low high))
    -- 9.4: the record in the middle holds the address
    (pick (holds t a (middle low high))
    (ended (Holds (middle low high)) 1)
    -- 9.5: else the search goes on before it where the address is below its begin, and after it where not
    (plus 1
    (pick (ltb a (t.begin (middle low high)))
    (search_from t a turns low (middle low high))
    (search_from t a turns (suc (middle low high)) high))))
    (ended (Gone (middle low high)) 0))

-- 9.3: the search among the records from `low` up to but not including `high`
unfoldable pub among : Table → ℕ → ℕ → ℕ → Halved
among t a low high = search_from t a (high - low) low high

-- 9.3: the search among all of `count` records
unfoldable pub halving : Table → ℕ → ℕ → Halved
halving t a count = among t a 0 count
