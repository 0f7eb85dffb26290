-- What the proofs of the functions cite: the invariant of a search and what each outcome of a turn makes of it, and the answers of a
-- lookup.
-- Assumes nothing.
use Rattle.std.specs.Prelude.{Result, Ok, Err, Option, Some, None}
use Rattle.answer.specs.Answer.{on_ok, refuse_of, limit, not_found}
use mathlib.Core.Path.{◌≡◌, refl, sym, ap, ◌∙◌}
use mathlib.Core.List.{List}
use mathlib.Core.Bool.{Bool, true, false}
use Prim.Native.Nat.{ℕ, suc, ◌+◌, ◌*◌, ◌≤◌, ◌<◌}
use native.Mathlib.Nat.{zero-add, add_assoc}
use native.Mathlib.Numerals.{add-one}
use native.Mathlib.Omega.{arith}
use lib.ListN.{length, get_or}
use borrow.Author.Tests.{le-leb, lt-leb}
use Rattle.answer.specs.Test.{must, file_limit}
use Rattle.answer.specs.declared.Reason.{Reason}
use Rattle.answer.specs.declared.Refusal.{Refusal}
use Rattle.answer.proofs.Laws.{must_on, must_off}
use Rattle.fields.specs.Number.{number_at}
use Rattle.fields.proofs.Number.{number_joined, number_one}
use Rattle.layout.specs.Layout.{numbers_at}
use Rattle.runtime_function.specs.declared.RuntimeFunction.{RuntimeFunction}
use Rattle.runtime_table.specs.Table.{Table, place_of, table_of, runtime_at, get_entry_of, lies_of}
use Rattle.runtime_table.specs.Check.{check_of}
use Rattle.runtime_table.proofs.Laws.{Whole, entry_is, entry_whole, entry_past, seen_there, seen_begin, seen_end, seen_gone, lies_there, never_both}
use Rattle.exception_data.specs.declared.ExceptionData.{ExceptionData}
use Rattle.runtime_lookup.specs.Halving.{Ending, Holds, Gone, Nothing, Halved, middle, ended, plus, among, halving}
use Rattle.runtime_lookup.specs.Lookup.{sought_at, sought_by, find_function_of, check_and_find_of, read_limit, uncounted, CountedReads}
use Rattle.runtime_lookup.specs.Code.{search_of, end_of, Looked, Searches}
use Rattle.runtime_lookup.specs.declared.Search.{Search}
use Rattle.runtime_lookup.specs.declared.Found.{Found}
use Rattle.runtime_lookup.specs.declared.Holder.{Holder}
use Rattle.runtime_lookup.proofs.Bound.{reads_26}
use Rattle.runtime_lookup.proofs.Ends.{Held, holds_told, gone_told, looked}
use Rattle.runtime_lookup.proofs.Turns.{Turn, At-gone, At-holds, At-before, At-after, turn_at, among_empty, among_gone, among_holds, among_before, among_after}

-- the number of four bytes, the least significant first
pub number_four : (s : List ℕ) (at : ℕ) {n : ℕ} → at + 4 ≤ length s
    → n ≡ get_or s at 0 + 256 * get_or s (at + 1) 0 + 65536 * get_or s (at + 2) 0 + 16777216 * get_or s (at + 3) 0 → n ≡ number_at false 4 s at
number_four s at h e =
    let f = number_joined false 2 s at h in
    let g = number_joined false 1 s at (omega arith) in
    let k = number_joined false 1 s (at + 2) (omega arith) in
    let a = number_one false s at (omega arith) in
    let b = number_one false s (at + 1) (omega arith) in
    let c = number_one false s (at + 2) (omega arith) in
    let d = number_one false s (at + 3) (omega arith) in
    let i : at + 2 + 1 ≡ at + 3 = omega arith in
    let j : number_at false 1 s (at + 2 + 1) ≡ number_at false 1 s (at + 3) = ap (number_at false 1 s) i in
    omega arith

-- the begin and the end of the record at an index, as four bytes each
module _ (s : List ℕ) (table m : ℕ) {n : ℕ} where
  pub begin_is : n ≡ number_at false 4 s (place_of table m) → n ≡ (table_of s table).begin m
  unfolding table_of numbers_at
  begin_is e = e

  pub end_is : n ≡ number_at false 4 s (place_of table m + 4) → n ≡ (table_of s table).end m
  unfolding table_of numbers_at
  end_is e = e

-- the records from `low` up to `high` are left, and `done` were read: the search goes on as the whole one does
pub record Left (t : Table) (count a low high done : ℕ) : Type 0 where
  pub within : high ≤ count
  pub rest : plus done (among t a low high) ≡ halving t a count

plus_none : (h : Halved) → plus 0 h ≡ h
plus_none h = rw (zero-add h.reads)

plus_one : (n : ℕ) (h : Halved) → plus (n + 1) h ≡ plus n (plus 1 h)
plus_one n h = rw (add_assoc n 1 h.reads)

pub start : (t : Table) (count a : ℕ) → Left t count a 0 count 0
unfolding halving
start t count a = record { within = omega arith; rest = plus_none (among t a 0 count) }

module _ (t : Table) (count a low high done : ℕ) (v : Left t count a low high done) where
  pub none_left : high ≤ low → ended Nothing done ≡ halving t a count
  none_left h = let e : done + 0 ≡ done = omega arith in rw e at (ap (plus done) (among_empty t a low high h) ∙ v.rest)

  module _ (m : ℕ) (e : m ≡ middle low high) (l : low < high) where
    pub gone : t.there m ≡ false → ended (Gone m) done ≡ halving t a count
    gone h = let k : done + 0 ≡ done = omega arith in rw k at (ap (plus done) (among_gone t a low high m e l h) ∙ v.rest)

    module _ (h : t.there m ≡ true) where
      -- a record that is read is one of those that the search reads
      pub on_read : done + 1 ≤ (halving t a count).reads
      on_read = by (turn_at t a m)
        where
          total : done + (among t a low high).reads ≡ (halving t a count).reads
          total = ap (λ (x : Halved). x.reads) v.rest

          by : Turn t a m → done + 1 ≤ (halving t a count).reads
          by (At-gone g) = absurd (let z : true ≡ false = sym h ∙ g in let w : ◌≡◌ {A = ℕ} 0 1 = cc in omega arith)
          by (At-holds g p q) = omega (arith, total, ap (λ (x : Halved). x.reads) (among_holds t a low high m e l g p q))
          by (At-before g p) = omega (arith, total, ap (λ (x : Halved). x.reads) (among_before t a low high m e l g p))
          by (At-after g p q) = omega (arith, total, ap (λ (x : Halved). x.reads) (among_after t a low high m e l g p q))

      module _ {b : ℕ} (eb : b ≡ t.begin m) where
        pub on_before : a < b → Left t count a low m (done + 1)
        on_before p =
            record {
              within = omega (arith, v.within);
              rest = plus_one done (among t a low m) ∙ ap (plus done) (among_before t a low high m e l h (omega arith)) ∙ v.rest;
            }

        module _ {z : ℕ} (ez : z ≡ t.end m) (p : b ≤ a) where
          pub on_holds : a < z → ended (Holds m) (done + 1) ≡ halving t a count
          on_holds q = ap (plus done) (among_holds t a low high m e l h (omega arith) (omega arith)) ∙ v.rest

          pub on_after : z ≤ a → Left t count a (m + 1) high (done + 1)
          on_after q =
              rw
              (add-one m)
              (record {
                within = v.within;
                rest = plus_one done (among t a (suc m) high) ∙ ap (plus done)
                    (among_after t a low high m e l h (omega arith) (omega arith)) ∙ v.rest;
              })

-- The search on a table that lies in the file.
module _ (s : List ℕ) (table count a low high done : ℕ) (h : lies_of (length s) table count ≡ true)
    (v : Left (table_of s table) count a low high done) (l : low < high) where
  pub inside_room : place_of table (middle low high) + 12 ≤ length s
  inside_room = lies_there s table (middle low high) count (omega (arith, v.within)) h

  inside_there : (table_of s table).there (middle low high) ≡ true
  unfolding table_of
  inside_there = le-leb _ _ inside_room

  pub inside_read : length s ≤ file_limit → done + 1 ≤ read_limit
  inside_read f =
      omega
      (arith, on_read (table_of s table) count a low high done v (middle low high) refl l inside_there, reads_26 s table count a f)

  module _ {b : ℕ} (eb : b ≡ number_at false 4 s (place_of table (middle low high))) where
    pub inside_before : a < b → Left (table_of s table) count a low (middle low high) (done + 1)
    inside_before p = on_before _ count a low high done v (middle low high) refl l inside_there (begin_is s table (middle low high) eb) p

    module _ {z : ℕ} (ez : z ≡ number_at false 4 s (place_of table (middle low high) + 4)) (p : b ≤ a) where
      pub inside_holds : a < z → ended (Holds (middle low high)) (done + 1) ≡ halving (table_of s table) a count
      inside_holds q =
          on_holds _ count a low high done v (middle low high) refl l inside_there (begin_is s table (middle low high) eb)
          (end_is s table (middle low high) ez) p q

      pub inside_after : z ≤ a → Left (table_of s table) count a (middle low high + 1) high (done + 1)
      inside_after q =
          on_after _ count a low high done v (middle low high) refl l inside_there (begin_is s table (middle low high) eb)
          (end_is s table (middle low high) ez) p q

-- The search with each record tested as it is read.
module _ (s : List ℕ) (table count a low high done : ℕ) (v : Left (table_of s table) count a low high done) (l : low < high) (m : ℕ)
    (em : m ≡ middle low high) {r : Result RuntimeFunction Refusal} (e : r ≡ get_entry_of s table m) where
  pub tested_gone : {k : Refusal} → r ≡ Err k → ended (Gone m) done ≡ halving (table_of s table) a count
  tested_gone f = gone _ count a low high done v m em l (seen_gone s table m (entry_past s table m e f))

  module _ {x : RuntimeFunction} (f : r ≡ Ok x) where
    whole : Whole s table m x
    whole = entry_whole s table m e f

    pub tested_read : length s ≤ file_limit → done + 1 ≤ read_limit
    tested_read g =
        omega
        (arith, on_read _ count a low high done v m em l (seen_there s table m whole), reads_26 s table count a g)

    pub tested_before : a < x.begin → Left (table_of s table) count a low m (done + 1)
    tested_before p = on_before _ count a low high done v m em l (seen_there s table m whole) (seen_begin s table m whole) p

    module _ (p : x.begin ≤ a) where
      pub tested_holds : a < x.end → ended (Holds m) (done + 1) ≡ halving (table_of s table) a count
      tested_holds q =
          on_holds _ count a low high done v m em l (seen_there s table m whole) (seen_begin s table m whole) (seen_end s table m whole) p q

      pub tested_after : x.end ≤ a → Left (table_of s table) count a (m + 1) high (done + 1)
      tested_after q =
          on_after _ count a low high done v m em l (seen_there s table m whole) (seen_begin s table m whole) (seen_end s table m whole) p q

-- a search that ends as halving does, with as many records read, keeps the promise of every search
pub searches : (s : List ℕ) (table count a : ℕ) {h : Search} → length s ≤ file_limit → h ≡ search_of (halving (table_of s table) a count)
    → Searches s table count a h
searches s table count a l e =
    rw e (record { same = refl; some = looked (table_of s table) a count; few = reads_26 s table count a l })

-- The record at which a search ended.
module _ (s : List ℕ) (table index : ℕ) {r : Result RuntimeFunction Refusal} (e : r ≡ get_entry_of s table index) where
  pub sought_whole : {x : RuntimeFunction} → r ≡ Ok x → Ok (record { function = x; index = index }) ≡ sought_at s table index
  unfolding sought_at
  sought_whole f = rw (← e, f)

never : {h : Holder} {k : Refusal} → ◌≡◌ {A = Result Holder Refusal} (Ok h) (Err k) → ⊥
never e = let z : ◌≡◌ {A = ℕ} 0 1 = cc in omega arith

stops : {i : ℕ} → ◌≡◌ {A = Option ℕ} (Some i) None → ⊥
stops e = let z : ◌≡◌ {A = ℕ} 0 1 = cc in omega arith

same_stop : {i j : ℕ} → ◌≡◌ {A = Option ℕ} (Some j) (Some i) → j ≡ i
same_stop e = cc

there_by : (s : List ℕ) (table index : ℕ) {y : Holder} (r : Result RuntimeFunction Refusal) → r ≡ get_entry_of s table index
    → Ok y ≡ on_ok r Err (λ e. Ok (record { function = e; index = index })) → (table_of s table).there index ≡ true
there_by s table index (Ok x) e f = seen_there s table index (entry_whole s table index e refl)
there_by s table index (Err k) e f = absurd (never f)

-- a record that is answered is there
pub sought_there : (s : List ℕ) (table index : ℕ) {y : Holder} → Ok y ≡ sought_at s table index → (table_of s table).there index ≡ true
unfolding sought_at
sought_there s table index e = there_by s table index (get_entry_of s table index) refl e

-- The answer of a lookup, by the end of its search.
module _ (s : List ℕ) (opened : ExceptionData) (a : ℕ) where
  pub lookup_long : {q : Refusal} → file_limit < length s → q ≡ refuse_of limit → Err q ≡ find_function_of s opened a
  unfolding find_function_of
  lookup_long l e = must_off Err _ _ _ (lt-leb _ _ l) e

  -- a refusal that is handed on has no count
  pub lookup_refused : {x : Result Found Refusal} {k : Refusal} → x ≡ Err k → Err k ≡ find_function_of s opened a
      → (uncounted x ≡ find_function_of s opened a) × CountedReads x
  lookup_refused e f = rw e (f, tt)

  module _ (l : length s ≤ file_limit) where
    -- by how halving ends
    pub lookup_ended : {o : Ending} {x : Result Holder Refusal} → (halving (table_of s opened.table) a opened.count).ending ≡ o
        → x ≡ sought_by s opened.table o → x ≡ find_function_of s opened a
    unfolding find_function_of
    lookup_ended e f = must_on Err _ _ _ (le-leb _ _ l) (f ∙ ap (sought_by s opened.table) (sym e))

    module _ {h : Search} (w : Searches s opened.table opened.count a h) where
      none_by : (o : Ending) {q : Refusal} → (halving (table_of s opened.table) a opened.count).ending ≡ o → end_of o ≡ None
          → q ≡ refuse_of not_found → Err q ≡ find_function_of s opened a
      none_by (Holds i) e n f = absurd (stops n)
      none_by (Gone i) e n f = absurd (stops n)
      none_by Nothing e n f = lookup_ended e (ap Err f)

      pub lookup_none : {q : Refusal} → h.end ≡ None → q ≡ refuse_of not_found → Err q ≡ find_function_of s opened a
      lookup_none e f = none_by _ refl (sym w.same ∙ e) f

      module _ {i : ℕ} {x : Result Holder Refusal} (f : x ≡ sought_at s opened.table i) where
        at_by : (o : Ending) → (halving (table_of s opened.table) a opened.count).ending ≡ o → end_of o ≡ Some i
            → x ≡ find_function_of s opened a
        at_by (Holds j) e n = lookup_ended e (rw (same_stop n) f)
        at_by (Gone j) e n = lookup_ended e (rw (same_stop n) f)
        at_by Nothing e n = absurd (stops (sym n))

        pub lookup_at : {y : Result Holder Refusal} → h.end ≡ Some i → x ≡ y → y ≡ find_function_of s opened a
        lookup_at e g = sym g ∙ at_by _ refl (sym w.same ∙ e)

        -- a record that is not there is not answered
        read_by_lem : (o : Ending) {y : Holder} → (halving (table_of s opened.table) a opened.count).ending ≡ o → end_of o ≡ Some i
            → x ≡ Ok y → Looked o h.reads → 1 ≤ h.reads
        read_by_lem (Holds j) e n g k = k
        read_by_lem (Gone j) e n g k =
            let t = sought_there s opened.table j (sym g ∙ rw (same_stop n) f) in
            absurd (never_both (sym t ∙ (gone_told (table_of s opened.table) a opened.count j e).gone))
        read_by_lem Nothing e n g k = absurd (stops (sym n))

        pub lookup_counted : {y : Holder} → h.end ≡ Some i → x ≡ Ok y → (1 ≤ h.reads) × (h.reads ≤ read_limit)
        lookup_counted e g = (read_by_lem _ refl (sym w.same ∙ e) g w.some, w.few)

must_told : {y : Holder} (t : Bool) (k : Reason) (on : Result Holder Refusal) → Ok y ≡ must Err t k on → Ok y ≡ on
unfolding must
must_told true k on e = e
must_told false k on e = absurd (never e)

-- the record that is answered at an index
pub sought_of : (s : List ℕ) (table index : ℕ) → place_of table index + 12 ≤ length s
    → Ok (record { function = runtime_at s (place_of table index); index = index }) ≡ sought_at s table index
sought_of s table index h = sought_whole s table index refl (sym (entry_is s table index h))

-- what a record that is answered at an index says
pub record Answers (s : List ℕ) (table index : ℕ) (y : Holder) : Type 0 where
  pub at : y.index ≡ index
  pub value : y.function ≡ runtime_at s (place_of table index)

same_index : {y : Holder} {x : RuntimeFunction} {i : ℕ} → ◌≡◌ {A = Result Holder Refusal} (Ok y) (Ok (record { function = x; index = i })) → y.index ≡ i
same_index e = cc

same_function : {y : Holder} {x : RuntimeFunction} {i : ℕ} → ◌≡◌ {A = Result Holder Refusal} (Ok y) (Ok (record { function = x; index = i })) → y.function ≡ x
same_function e = cc

answers_by : (s : List ℕ) (table index : ℕ) {y : Holder} (r : Result RuntimeFunction Refusal) → r ≡ get_entry_of s table index
    → Ok y ≡ on_ok r Err (λ e. Ok (record { function = e; index = index })) → Answers s table index y
answers_by s table index (Ok x) e f =
    record { at = same_index f; value = same_function f ∙ (entry_whole s table index e refl).value }
answers_by s table index (Err k) e f = absurd (never f)

sought_told : (s : List ℕ) (table index : ℕ) {y : Holder} → Ok y ≡ sought_at s table index → Answers s table index y
unfolding sought_at
sought_told s table index e = answers_by s table index (get_entry_of s table index) refl e

-- what a lookup that finds says: its record holds the address
pub record Finds (s : List ℕ) (opened : ExceptionData) (a : ℕ) (y : Holder) : Type 0 where
  pub held : Held (table_of s opened.table) a 0 opened.count y.index
  pub value : y.function ≡ runtime_at s (place_of opened.table y.index)

module _ (s : List ℕ) (opened : ExceptionData) (a : ℕ) {y : Holder} where
  finds_by : (o : Ending) → (halving (table_of s opened.table) a opened.count).ending ≡ o → Ok y ≡ sought_by s opened.table o
      → Finds s opened a y
  finds_by (Holds i) e f =
      let w = sought_told s opened.table i f in
      record {
        held = rw w.at (holds_told (table_of s opened.table) a opened.count i e);
        value = rw w.at w.value;
      }
  finds_by (Gone i) e f =
      absurd (never_both (sym (sought_there s opened.table i f) ∙ (gone_told (table_of s opened.table) a opened.count i e).gone))
  finds_by Nothing e f = absurd (never f)

  pub lookup_told : Ok y ≡ find_function_of s opened a → Finds s opened a y
  unfolding find_function_of
  lookup_told e = finds_by _ refl (must_told _ _ _ e)

-- The door that checks first, by the answer of the check.
module _ (s : List ℕ) (opened : ExceptionData) (a : ℕ) {r : Result Unit Refusal} (e : r ≡ check_of s opened.table opened.count) where
  pub checked_on : {x : Result Holder Refusal} → r ≡ Ok tt → x ≡ find_function_of s opened a → x ≡ check_and_find_of s opened a
  unfolding check_and_find_of
  checked_on f g = rw (← e, f) g
