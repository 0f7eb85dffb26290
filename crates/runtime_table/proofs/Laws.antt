-- The laws of a record, of order and of a check: what the proofs of readers of a table cite.
-- Assumes nothing.
use Rattle.std.specs.Prelude.{Result, Ok, Err}
use mathlib.Core.Path.{◌≡◌, refl, sym, ap, ◌∙◌}
use mathlib.Core.Logic.{⊎_elim}
use mathlib.Core.List.{List, [], ◌∷◌}
use mathlib.Core.Bool.{Bool, true, false}
use Prim.Native.Nat.{ℕ, zero, suc, ◌+◌, ◌-◌, ◌^◌, ◌≤◌, ◌<◌}
use native.Mathlib.Nat.{not-suc-le-zero}
use native.Mathlib.Numerals.{add-one}
use native.Mathlib.Omega.{arith}
use lib.ListN.{length}
use lib.Dec.{leb, ltb, eqb}
use borrow.Author.Tests.{le-leb, lt-leb, lt-ltb, leb-true, ltb-true, eq-eqb, ne_eqb, eqb-true}
use Rattle.answer.specs.Answer.{cut_of, beyond_of, refuse_of, limit, order}
use Rattle.answer.specs.Test.{pick, file_limit}
use Rattle.answer.specs.declared.Refusal.{Refusal}
use Rattle.answer.proofs.Laws.{must_on, must_off, cut_beyond}
use Rattle.fields.proofs.Laws.{le_or_lt}
use Rattle.layout.proofs.Laws.{read_short, read_full}
use Rattle.layout.proofs.Theorems.{Reads, whole, cut as missing, reads}
use Rattle.runtime_function.specs.RuntimeFunction.{runtime_function, record_of, read_of}
use Rattle.runtime_function.specs.declared.RuntimeFunction.{RuntimeFunction}
use Rattle.runtime_table.specs.Table.{Table, place_of, table_of, runtime_at, get_entry_of, lies_of, each, ordered}
use Rattle.runtime_table.specs.Check.{check_of}

pub never : {e : RuntimeFunction} {k : Refusal} → Ok e ≡ Err k → ⊥
never e = let z : ◌≡◌ {A = ℕ} 0 1 = cc in omega arith

pub never_both : true ≡ false → ⊥
never_both e = let z : ◌≡◌ {A = ℕ} 0 1 = cc in omega arith

same_record : {e f : RuntimeFunction} → ◌≡◌ {A = Result RuntimeFunction Refusal} (Ok e) (Ok f) → e ≡ f
same_record e = cc

-- what a record that was read says
pub record Whole (s : List ℕ) (table index : ℕ) (e : RuntimeFunction) : Type 0 where
  pub inside : place_of table index + 12 ≤ length s
  pub value : e ≡ runtime_at s (place_of table index)

abbrev told : List ℕ → ℕ → Result RuntimeFunction Refusal → Type 0
told s at r = Reads (Ok (runtime_at s at)) (λ (end : ℕ). Err (cut_of end)) runtime_function s at r

told_of : (s : List ℕ) (table index : ℕ) {r : Result RuntimeFunction Refusal} → r ≡ get_entry_of s table index → told s (place_of table index) r
unfolding get_entry_of read_of
told_of s table index e =
    rw e (reads (λ ns. Ok (record_of ns)) (λ end. Err (cut_of end)) false runtime_function s (place_of table index))

whole_of : (s : List ℕ) (table index : ℕ) {r : Result RuntimeFunction Refusal} {e : RuntimeFunction} → r ≡ Ok e
    → told s (place_of table index) r → Whole s table index e
whole_of s table index f (whole r g) = record { inside = r (omega arith); value = same_record (sym f ∙ g) }
whole_of s table index f (missing n a b g) = absurd (never (sym f ∙ g))

past_of : (s : List ℕ) (table index : ℕ) {r : Result RuntimeFunction Refusal} {k : Refusal} → r ≡ Err k → told s (place_of table index) r
    → length s < place_of table index + 12
past_of s table index f (whole r g) = absurd (never (sym g ∙ f))
past_of s table index f (missing n a b g) = omega arith

-- a record that has room is read
pub entry_is : (s : List ℕ) (table index : ℕ) → place_of table index + 12 ≤ length s
    → Ok (runtime_at s (place_of table index)) ≡ get_entry_of s table index
unfolding get_entry_of read_of
entry_is s table index h =
    read_full false s (λ ns. Ok (record_of ns)) (λ end. Err (cut_of end)) runtime_function (place_of table index)
    (omega arith)

-- what the answer of a read at an index tells
module _ (s : List ℕ) (table index : ℕ) {r : Result RuntimeFunction Refusal} (e : r ≡ get_entry_of s table index) where
  pub entry_whole : {f : RuntimeFunction} → r ≡ Ok f → Whole s table index f
  entry_whole f = whole_of s table index f (told_of s table index e)

  pub entry_past : {k : Refusal} → r ≡ Err k → length s < place_of table index + 12
  entry_past f = past_of s table index f (told_of s table index e)

-- Whether a table lies within bytes.
module _ (len table count : ℕ) where
  pub lies_none : count ≡ 0 → true ≡ lies_of len table count
  unfolding lies_of
  lies_none e = rw (eq-eqb count 0 e)

  pub lies_as : {t : Bool} → (count ≡ 0 → ⊥) → t ≡ leb (place_of table count) len → t ≡ lies_of len table count
  unfolding lies_of
  lies_as n e = rw (ne_eqb count 0 n) e

  pub lies_over : (count ≡ 0 → ⊥) → len < place_of table count → false ≡ lies_of len table count
  lies_over n l = lies_as n (sym (lt-leb (place_of table count) len l))

  lies_by : (t : Bool) → eqb count 0 ≡ t → 0 < count → pick t true (leb (place_of table count) len) ≡ true → place_of table count ≤ len
  lies_by true e p h = absurd (omega (arith, eqb-true count 0 e))
  lies_by false e p h = leb-true _ _ h

  pub lies_told : 0 < count → lies_of len table count ≡ true → place_of table count ≤ len
  unfolding lies_of
  lies_told p h = lies_by (eqb count 0) refl p h

-- the record at an index, as the table has it
module _ (s : List ℕ) (table index : ℕ) where
  module _ {e : RuntimeFunction} (w : Whole s table index e) where
    pub seen_there : (table_of s table).there index ≡ true
    unfolding table_of
    seen_there = le-leb _ _ w.inside

    pub seen_begin : e.begin ≡ (table_of s table).begin index
    unfolding table_of
    seen_begin = rw w.value

    pub seen_end : e.end ≡ (table_of s table).end index
    unfolding table_of
    seen_end = rw w.value

  pub seen_gone : length s < place_of table index + 12 → (table_of s table).there index ≡ false
  unfolding table_of
  seen_gone l = lt-leb _ _ l

  -- a record of a table that lies in the bytes is there
  pub lies_there : (count : ℕ) → index < count → lies_of (length s) table count ≡ true → place_of table index + 12 ≤ length s
  lies_there count l h = omega (arith, lies_told (length s) table count (omega arith) h)

  pub lies_read : (count : ℕ) {r : Result RuntimeFunction Refusal} {k : Refusal} → index < count → lies_of (length s) table count ≡ true
      → r ≡ get_entry_of s table index → r ≡ Err k → ⊥
  lies_read count l h e f = omega (arith, lies_there count l h, entry_past s table index e f)

-- a record that begins past 64 bits is not in bytes that end before it
pub record_past : (s : List ℕ) (table index : ℕ) {q : Refusal} → length s < place_of table index + 4 → 2 ^ 64 ≤ place_of table index
    → q ≡ beyond_of → Err q ≡ get_entry_of s table index
unfolding get_entry_of read_of
record_past s table index h b e =
    let c : beyond_of ≡ cut_of (place_of table index + 4) = cut_beyond (place_of table index + 4) (omega arith) in
    ap Err (e ∙ c)
    ∙ read_short false s (λ ns. Ok (record_of ns)) (λ end. Err (cut_of end)) 4 (4 ∷ 4 ∷ []) (place_of table index) h

-- What holds of each number below another.
pub each_all : (n : ℕ) (p : ℕ → Bool) → ((i : ℕ) → i < n → p i ≡ true) → each n p ≡ true
unfolding each
each_all zero p h = refl
each_all (suc n) p h = rw (each_all n p (λ i l. h i (omega arith)), h n (omega arith))

each_by : (n : ℕ) (p : ℕ → Bool) (t : Bool) → each n p ≡ t → ((i : ℕ) → i < n → each n p ≡ true → p i ≡ true) → pick t (p n) false ≡ true
    → (i : ℕ) → i < suc n → p i ≡ true
each_by n p true e f h i l =
    ⊎_elim (λ g. let k : i ≡ n = omega arith in rw k h) (λ g. f i g e) (le_or_lt n i)
each_by n p false e f h i l = absurd (never_both (sym h))

pub each_told : (n : ℕ) (p : ℕ → Bool) (i : ℕ) → i < n → each n p ≡ true → p i ≡ true
unfolding each
each_told zero p i l h = absurd (not-suc-le-zero l)
each_told (suc n) p i l h = each_by n p (each n p) refl (each_told n p) h i l

either : (t : Bool) {u : Bool} → t ≡ u → (t ≡ true → ⊥) → t ≡ false
either true e f = absurd (f refl)
either false e f = refl

-- the records of a table are in order
pub record InOrder (t : Table) (count : ℕ) : Type 0 where
  pub proper : (i : ℕ) → i < count → t.begin i < t.end i
  pub next : (i : ℕ) → suc i < count → t.end i ≤ t.begin (suc i)

module _ (t : Table) (count : ℕ) where
  pub ordered_is : InOrder t count → true ≡ ordered t count
  unfolding ordered
  ordered_is o =
      let p = each_all count (λ i. ltb (t.begin i) (t.end i)) (λ i l. lt-ltb _ _ (o.proper i l)) in
      let q = each_all (count - 1) (λ i. leb (t.end i) (t.begin (suc i))) (λ i l. le-leb _ _ (o.next i (omega arith))) in
      rw (p, q)

  pub ordered_told : ordered t count ≡ true → InOrder t count
  unfolding ordered
  ordered_told h = by (each count (λ i. ltb (t.begin i) (t.end i))) refl h
    where
      by : (b : Bool) → each count (λ i. ltb (t.begin i) (t.end i)) ≡ b
          → pick b (each (count - 1) (λ i. leb (t.end i) (t.begin (suc i)))) false ≡ true → InOrder t count
      by true e f =
          record {
            proper = λ i l. ltb-true _ _ (each_told count (λ i. ltb (t.begin i) (t.end i)) i l e);
            next = λ i l. leb-true _ _ (each_told (count - 1) (λ i. leb (t.end i) (t.begin (suc i))) i (omega arith) f);
          }
      by false e f = absurd (never_both (sym f))

  ordered_not : (InOrder t count → ⊥) → false ≡ ordered t count
  ordered_not f = sym (either (ordered t count) refl (λ h. f (ordered_told h)))

  -- a record that does not begin before it ends
  pub ordered_empty : (i : ℕ) → i < count → t.end i ≤ t.begin i → false ≡ ordered t count
  ordered_empty i l h = ordered_not (λ o. omega (arith, o.proper i l))

  -- a record that begins before the one before it ends
  pub ordered_meets : (i : ℕ) → suc i < count → t.begin (suc i) < t.end i → false ≡ ordered t count
  ordered_meets i l h = ordered_not (λ o. omega (arith, o.next i l))

-- the first `index` records are in order, and the last of them ends at `end`
pub record Passed (t : Table) (count index end : ℕ) : Type 0 where
  pub within : index ≤ count
  pub sorted : InOrder t index
  pub first : index ≡ 0 → end ≡ 0
  pub last : (i : ℕ) → suc i ≡ index → t.end i ≡ end

pub pass_none : (t : Table) (count : ℕ) → Passed t count 0 0
pass_none t count =
    record {
      within = omega arith;
      sorted = record { proper = λ i l. absurd (not-suc-le-zero l); next = λ i l. absurd (not-suc-le-zero l) };
      first = λ e. refl;
      last = λ i e. absurd (let z : 1 ≤ 0 = omega arith in not-suc-le-zero z);
    }

module _ (t : Table) (count index end : ℕ) (p : Passed t count index end) where
  -- all are passed
  pub pass_all : count ≤ index → true ≡ ordered t count
  pass_all l = let e : index ≡ count = omega (arith, p.within) in ordered_is t count (rw e at p.sorted)

  module _ (l : index < count) {begin : ℕ} (b : begin ≡ t.begin index) where
    before : (j : ℕ) → j ≡ index → begin < end → false ≡ ordered t count
    before zero e h = absurd (omega (arith, p.first (sym e)))
    before (suc j) e h =
        let k : t.begin (suc j) ≡ begin = ap t.begin e ∙ sym b in
        ordered_meets t count j (omega arith) (omega (arith, p.last j e))

    pub pass_meets : begin < end → false ≡ ordered t count
    pass_meets = before index refl

    module _ {stop : ℕ} (z : stop ≡ t.end index) where
      pub pass_empty : stop ≤ begin → false ≡ ordered t count
      pass_empty h = ordered_empty t count index l (omega arith)

      proper_more : end ≤ begin → begin < stop → (i : ℕ) → i < suc index → t.begin i < t.end i
      proper_more h k i m =
          ⊎_elim
          (λ (g : index ≤ i). let e : i ≡ index = omega arith in rw e (omega arith))
          (λ g. p.sorted.proper i g)
          (le_or_lt index i)

      next_more : end ≤ begin → (i : ℕ) → suc i < suc index → t.end i ≤ t.begin (suc i)
      next_more h i m =
          ⊎_elim
          (λ g.
          let e : suc i ≡ index = omega arith in
          omega (arith, p.last i e, ap t.begin e))
          (λ g. p.sorted.next i g)
          (le_or_lt index (suc i))

      pub pass_on : end ≤ begin → begin < stop → Passed t count (index + 1) stop
      pass_on h k =
          rw
          (add-one index)
          (record {
            within = omega arith;
            sorted = record { proper = proper_more h k; next = next_more h };
            first = λ e. absurd (let w : 1 ≤ 0 = omega arith in not-suc-le-zero w);
            last = λ i e. let q : i ≡ index = omega arith in ap t.end q ∙ sym z;
          })

-- Checking a table, a law for each outcome.
module _ (s : List ℕ) (table count : ℕ) where
  pub check_long : {q : Refusal} → file_limit < length s → q ≡ refuse_of limit → Err q ≡ check_of s table count
  unfolding check_of
  check_long l e = must_off Err _ _ _ (lt-leb _ _ l) e

  module _ (l : length s ≤ file_limit) where
    pub check_past : {q : Refusal} → lies_of (length s) table count ≡ false → q ≡ cut_of (place_of table count)
        → Err q ≡ check_of s table count
    unfolding check_of
    check_past h e = must_on Err _ _ _ (le-leb _ _ l) (rw (h, e))

    module _ (h : lies_of (length s) table count ≡ true) where
      pub check_disorder : {q : Refusal} → ordered (table_of s table) count ≡ false → q ≡ refuse_of order → Err q ≡ check_of s table count
      unfolding check_of
      check_disorder o e = must_on Err _ _ _ (le-leb _ _ l) (rw h (must_off Err _ _ _ o e))

      pub check_on : ordered (table_of s table) count ≡ true → Ok tt ≡ check_of s table count
      unfolding check_of
      check_on o = must_on Err _ _ _ (le-leb _ _ l) (rw h (must_on Err _ _ _ o refl))
