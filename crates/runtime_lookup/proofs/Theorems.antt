-- What is proved of halving and of a lookup, for every input. That a function answers its definition is its contract (src/lib.rt).
-- Assumes nothing.
use Rattle.std.specs.Prelude.{Result, Ok, Err, ℕ, List, ◌≡◌}
use Rattle.answer.specs.declared.Refusal.{Refusal}
use mathlib.Core.Path.{◌≡◌, refl, sym, ap, ◌∙◌}
use mathlib.Core.List.{List}
use mathlib.Core.Bool.{true}
use Prim.Native.Nat.{ℕ, suc, ◌≤◌, ◌<◌}
use native.Mathlib.Omega.{arith}
use lib.ListN.{length}
use lib.Dec.{leb, ltb}
use borrow.Author.Tests.{le-leb}
use Rattle.answer.specs.Answer.{refuse_of, not_found, values}
use Rattle.answer.specs.Test.{pick, file_limit}
use Rattle.answer.proofs.Unique.{same}
use Rattle.runtime_function.specs.declared.RuntimeFunction.{RuntimeFunction}
use Rattle.runtime_table.specs.Table.{Table, place_of, table_of, runtime_at, get_entry_of}
use Rattle.runtime_table.specs.Check.{check_of}
use Rattle.runtime_table.proofs.Laws.{entry_whole, seen_there, seen_begin, seen_end, lies_there, never_both}
use Rattle.runtime_table.proofs.Theorems.{Accepted, check_told}
use Rattle.exception_data.specs.Exception.{open_of}
use Rattle.exception_data.specs.declared.ExceptionData.{ExceptionData}
use Rattle.exception_data.proofs.Theorems.{opened_checked}
use Rattle.runtime_lookup.specs.Halving.{Ending, Holds, Gone, Nothing, Halved, holds, middle, ended, plus, among, halving}
use Rattle.runtime_lookup.specs.Lookup.{find_function_of, check_and_find_of, read_limit, uncounted, CountedReads}
use Rattle.runtime_lookup.specs.Answers.{answer_find_function, count_find_function, answer_check_and_find, count_check_and_find, holder_numbers, found_numbers}
use Rattle.runtime_lookup.specs.declared.Holder.{Holder}
use Rattle.runtime_lookup.specs.declared.Found.{Found}
use Rattle.runtime_lookup.proofs.Turns as turns
use Rattle.runtime_lookup.proofs.Bound as bound
use Rattle.runtime_lookup.proofs.Ends.{Held, holds_told, gone_told}
use Rattle.runtime_lookup.proofs.Order as sorted
use Rattle.runtime_lookup.proofs.Order.{Sorted}
use Rattle.runtime_lookup.proofs.Laws.{lookup_ended, lookup_told, sought_of, sought_whole, checked_on}

-- 9.3 to 9.7: the search among the records from `low` up to but not including `high`, with no bound on its turns.
pub search_is : (t : Table) (a low high : ℕ)
    → among t a low high
    ≡ pick (leb high low)
    (ended Nothing 0)
    (pick (t.there (middle low high))
    (pick (holds t a (middle low high))
    (ended (Holds (middle low high)) 1)
    (plus 1
    (pick (ltb a (t.begin (middle low high)))
    (among t a low (middle low high))
    (among t a (suc (middle low high)) high))))
    (ended (Gone (middle low high)) 0))
search_is = turns.among_is

-- 1.6: on all bytes and numbers, and however the search ends, at most 26 records are read.
pub reads_26 : (s : List ℕ) (table count a : ℕ) → length s ≤ file_limit → (halving (table_of s table) a count).reads ≤ read_limit
reads_26 = bound.reads_26

-- Where every record is there, none is missed: 1 is answered only for a record that is looked at and is not there.
pub never_gone : (t : Table) (a count i : ℕ) → ((j : ℕ) → j < count → t.there j ≡ true) → (halving t a count).ending ≡ Gone i → ⊥
never_gone t a count i w e = let m = gone_told t a count i e in never_both (sym (w i m.below) ∙ m.gone)

-- the record at an index of an opened table
abbrev pub record_at : List ℕ → ExceptionData → ℕ → RuntimeFunction
record_at s opened i = runtime_at s (place_of opened.table i)

-- 9.1: it is one of the table's, and holds the address
pub record Holding (s : List ℕ) (opened : ExceptionData) (a i : ℕ) : Type 0 where
  pub below : i < opened.count
  pub begun : (record_at s opened i).begin ≤ a
  pub unended : a < (record_at s opened i).end

-- 9.2: what a lookup is to answer: the one record that holds the address, or 10 where none does
pub data Exact (s : List ℕ) (opened : ExceptionData) (a : ℕ) (r : Result Holder Refusal) : Type 0 where
  finds : (i : ℕ) → Holding s opened a i → ((j : ℕ) → Holding s opened a j → j ≡ i)
      → r ≡ Ok (record { function = record_at s opened i; index = i }) → Exact s opened a r
  none : ((i : ℕ) → Holding s opened a i → ⊥) → r ≡ Err (refuse_of not_found) → Exact s opened a r

-- A table that the check accepts.
module _ (s : List ℕ) (opened : ExceptionData) (a : ℕ) (c : Ok tt ≡ check_of s opened.table opened.count) where
  accepted : Accepted s opened.table opened.count
  accepted = check_told s opened.table opened.count c

  is_sorted : Sorted (table_of s opened.table) opened.count
  unfolding table_of
  is_sorted =
      record { whole = λ i l. le-leb _ _ (lies_there s opened.table i opened.count l accepted.lies); order = accepted.order }

  held : (i : ℕ) → Holding s opened a i → Held (table_of s opened.table) a 0 opened.count i
  unfolding table_of
  held i h =
      record { from = omega arith; below = h.below; there = is_sorted.whole i h.below; begun = h.begun; unended = h.unended }

  holding : (i : ℕ) → Held (table_of s opened.table) a 0 opened.count i → Holding s opened a i
  unfolding table_of
  holding i h = record { below = h.below; begun = h.begun; unended = h.unended }

  -- At most one record holds the address.
  pub one_holds : (i j : ℕ) → Holding s opened a i → Holding s opened a j → i ≡ j
  one_holds i j x y = sorted.only _ a opened.count is_sorted i j (held i x) (held j y)

  -- A record that holds the address is found.
  pub found_if_held : (i : ℕ) → Holding s opened a i
      → Ok (record { function = record_at s opened i; index = i }) ≡ find_function_of s opened a
  found_if_held i h =
      lookup_ended s opened a accepted.short (sorted.holder_found _ a opened.count is_sorted i (held i h))
      (sought_of s opened.table i (lies_there s opened.table i opened.count h.below accepted.lies))

  -- What is found holds the address.
  pub held_if_found : (h : Holder) → Ok h ≡ find_function_of s opened a
      → Holding s opened a h.index × (h.function ≡ record_at s opened h.index)
  held_if_found h e = let w = lookup_told s opened a e in (holding h.index w.held, w.value)

  -- Where no record holds the address, the answer is 10.
  pub not_found_if_none : ((i : ℕ) → Holding s opened a i → ⊥) → Err (refuse_of not_found) ≡ find_function_of s opened a
  not_found_if_none n =
      lookup_ended s opened a accepted.short (sorted.none_found _ a opened.count is_sorted (λ i h. n i (holding i h))) refl

  exact_by : (o : Ending) → (halving (table_of s opened.table) a opened.count).ending ≡ o → Exact s opened a (find_function_of s opened a)
  exact_by (Holds i) e =
      let h = holding i (holds_told _ a opened.count i e) in
      finds i h (λ j k. one_holds j i k h) (sym (found_if_held i h))
  exact_by (Gone i) e = absurd (never_gone _ a opened.count i is_sorted.whole e)
  exact_by Nothing e =
      none (λ i h. differ (sym (sorted.holder_found _ a opened.count is_sorted i (held i h)) ∙ e))
      (sym (lookup_ended s opened a accepted.short e refl))
    where
      differ : {i : ℕ} → Holds i ≡ Nothing → ⊥
      differ e = let z : ◌≡◌ {A = ℕ} 0 1 = cc in omega arith

  -- All of this at once.
  pub checked_exact : Exact s opened a (find_function_of s opened a)
  checked_exact = exact_by _ refl

  -- The door that checks the table answers the same.
  pub checked_as_looked_up : find_function_of s opened a ≡ check_and_find_of s opened a
  checked_as_looked_up = checked_on s opened a c refl refl

-- 9.2: In a table that opening answered, a lookup finds exactly when a record holds the address, and it is the one that holds it.
pub opened_exact : (s : List ℕ) (opened : ExceptionData) (a : ℕ) → Ok opened ≡ open_of s
    → Exact s opened a (find_function_of s opened a)
opened_exact s opened a o = checked_exact s opened a (opened_checked s opened o)

-- A table of one record, opened or not, finds its own begin.
pub own_begin : (s : List ℕ) (opened : ExceptionData) (e : RuntimeFunction) → length s ≤ file_limit → opened.count ≡ 1
    → Ok e ≡ get_entry_of s opened.table 0 → e.begin < e.end
    → Ok (record { function = e; index = 0 }) ≡ find_function_of s opened e.begin
unfolding halving
own_begin s opened e l one f p =
    let w = entry_whole s opened.table 0 refl (sym f) in
    let h = turns.among_holds (table_of s opened.table) e.begin 0 1 0 refl (omega arith) (seen_there s opened.table 0 w)
    (omega (arith, seen_begin s opened.table 0 w)) (omega (arith, seen_end s opened.table 0 w)) in
    lookup_ended s opened e.begin l {o = Holds 0} (rw one (ap (λ (x : Halved). x.ending) (sym h)))
    (sought_whole s opened.table 0 refl (sym f))

-- Two answers that meet the promise of `find_function` are equal but for the number of records read, which is 1 to 26 where it finds.
pub find_function_unique : (s : List ℕ) (opened : ExceptionData) (a : ℕ) (r q : Result Found Refusal)
    → (uncounted r ≡ find_function_of s opened a) × CountedReads r → (uncounted q ≡ find_function_of s opened a) × CountedReads q
    → uncounted r ≡ uncounted q
find_function_unique s opened a r q e f = same e.0 f.0

pub check_and_find_unique : (s : List ℕ) (opened : ExceptionData) (a : ℕ) {r q : Result Holder Refusal} → r ≡ check_and_find_of s opened a
    → q ≡ check_and_find_of s opened a → r ≡ q
check_and_find_unique s opened a = same

-- Each answer has as many numbers as it says, zeros where it is refused.
pub find_function_count : (r : Result Found Refusal) → length (values count_find_function (answer_find_function r)) ≡ count_find_function
find_function_count (Ok x) = refl
find_function_count (Err k) = refl

pub check_and_find_count : (r : Result Holder Refusal) → length (values count_check_and_find (answer_check_and_find r)) ≡ count_check_and_find
check_and_find_count (Ok h) = refl
check_and_find_count (Err k) = refl

-- The numbers that it stands for are fixed.
pub holder_numbers_unique : (a : Holder) {r q : List ℕ} → r ≡ holder_numbers a → q ≡ holder_numbers a → r ≡ q
holder_numbers_unique a = same

-- The numbers that it stands for are fixed.
pub found_numbers_unique : (a : Found) {r q : List ℕ} → r ≡ found_numbers a → q ≡ found_numbers a → r ≡ q
found_numbers_unique a = same
