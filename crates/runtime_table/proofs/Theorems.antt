-- What is proved of a table of runtime records, for every input. That a function answers its definition is its contract (src/lib.rt).
-- Assumes nothing.
use Rattle.runtime_function.specs.declared.RuntimeFunction.{RuntimeFunction}
use Rattle.std.specs.Prelude.{Result, Ok, Err}
use mathlib.Core.Path.{◌≡◌, refl, sym, ap}
use mathlib.Core.List.{List}
use mathlib.Core.Bool.{Bool, true, false}
use Prim.Native.Nat.{ℕ, zero, suc, ◌+◌, ◌-◌, ◌≤◌, ◌<◌}
use native.Mathlib.Omega.{arith}
use lib.ListN.{length}
use lib.Dec.{leb}
use borrow.Author.Tests.{leb-true}
use Rattle.answer.specs.Answer.{values}
use Rattle.answer.specs.Test.{pick, must, file_limit}
use Rattle.answer.specs.declared.Refusal.{Refusal}
use Rattle.answer.proofs.Unique.{same}
use Rattle.runtime_table.specs.Table.{Table, table_of, get_entry_of, lies_of, ordered}
use Rattle.runtime_table.specs.Check.{check_of}
use Rattle.runtime_table.specs.Answers.{answer_check_table, count_check_table}
use Rattle.runtime_table.proofs.Laws.{InOrder, ordered_is, ordered_told, check_on}

never : {k : Refusal} → ◌≡◌ {A = Result Unit Refusal} (Ok tt) (Err k) → ⊥
never e = let z : ◌≡◌ {A = ℕ} 0 1 = cc in omega arith

-- what a check that accepts says: the file is within its limit, the table lies in it, and its records are in order
pub record Accepted (s : List ℕ) (table count : ℕ) : Type 0 where
  pub short : length s ≤ file_limit
  pub lies : lies_of (length s) table count ≡ true
  pub order : InOrder (table_of s table) count

module _ (s : List ℕ) (table count : ℕ) where
  accepted_by : (a b c : Bool) (i j k : Refusal) → leb (length s) file_limit ≡ a → lies_of (length s) table count ≡ b
      → ordered (table_of s table) count ≡ c → ◌≡◌ {A = Result Unit Refusal} (Ok tt) (pick a (pick b (pick c (Ok tt) (Err i)) (Err j)) (Err k))
      → Accepted s table count
  accepted_by true true true i j k p q r e = record { short = leb-true _ _ p; lies = q; order = ordered_told _ _ r }
  accepted_by true true false i j k p q r e = absurd (never e)
  accepted_by true false c i j k p q r e = absurd (never e)
  accepted_by false b c i j k p q r e = absurd (never e)

  -- The check accepts a table exactly when it lies in a file within the limit, and its records are in order.
  pub check_told : Ok tt ≡ check_of s table count → Accepted s table count
  unfolding check_of must
  check_told e = accepted_by _ _ _ _ _ _ refl refl refl e

  pub check_accepts : Accepted s table count → Ok tt ≡ check_of s table count
  check_accepts a = check_on s table count a.short a.lies (sym (ordered_is _ _ a.order))

module _ (t : Table) (count : ℕ) (o : InOrder t count) where
  apart : (d p : ℕ) → suc (p + d) < count → t.end p ≤ t.begin (suc (p + d))
  apart zero p h = omega (arith, o.next p (omega arith), ap t.begin {x = suc (p + zero)} {y = suc p} (omega arith))
  apart (suc d) p h =
      let e : t.begin (suc (p + suc d)) ≡ t.begin (suc (suc (p + d))) = ap t.begin (omega arith) in
      omega (arith, apart d p (omega arith), o.proper (suc (p + d)) (omega arith), o.next (suc (p + d)) (omega arith), e)

  -- In order, each record ends at or before every later one begins.
  pub ends_before : (p q : ℕ) → p < q → q < count → t.end p ≤ t.begin q
  ends_before p q l h = let k : suc (p + (q - suc p)) ≡ q = omega arith in rw k at (apart (q - suc p) p (omega arith))

-- Two answers that meet a promise of this crate are equal.
pub check_unique : (s : List ℕ) (table count : ℕ) {r q : Result Unit Refusal} → r ≡ check_of s table count → q ≡ check_of s table count → r ≡ q
check_unique s table count = same

pub get_entry_unique : (s : List ℕ) (table index : ℕ) {r q : Result RuntimeFunction Refusal} → r ≡ get_entry_of s table index
    → q ≡ get_entry_of s table index → r ≡ q
get_entry_unique s table index = same

pub lies_unique : (len table count : ℕ) {r q : Bool} → r ≡ lies_of len table count → q ≡ lies_of len table count → r ≡ q
lies_unique len table count = same

-- The answer has as many numbers as it says, zeros where it is refused.
pub check_count : (a : Result Unit Refusal) → length (values count_check_table (answer_check_table a)) ≡ count_check_table
check_count (Ok tt) = refl
check_count (Err k) = refl
