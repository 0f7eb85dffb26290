-- The laws of a list of version records that proofs cite.
-- Assumes nothing.
use Rattle.std.specs.Prelude.{Result, Ok, Err}
use mathlib.Core.Path.{◌≡◌, refl, sym, ap, ◌∙◌}
use mathlib.Core.List.{List, [], ◌∷◌, ◌++◌}
use mathlib.Core.Bool.{Bool, true, false}
use Prim.Native.Nat.{ℕ, zero, suc, ◌+◌, ◌*◌, ◌-◌, ◌≤◌, ◌<◌}
use native.Mathlib.Nat.{not-suc-le-zero, mul-le-mul}
use native.Mathlib.Numerals.{add-one}
use native.Mathlib.Omega.{arith}
use lib.ListN.{length, set, length-append, length-set}
use lib.Dec.{leb}
use borrow.Author.Tests.{le-leb, lt-leb}
use Rattle.answer.specs.Answer.{refuse_of, cut_of, limit, room}
use Rattle.answer.specs.declared.Refusal.{Refusal}
use Rattle.answer.specs.Test.{pick, file_limit}
use Rattle.answer.proofs.Laws.{must_on, must_off}
use Rattle.fields.specs.Field.{put, stored, write_of as written_in}
use Rattle.fields.proofs.Laws.{put_sets, put_both, length_put, store_done, store_refused, stored_put}
use Rattle.layout.specs.Layout.{size, numbers_at}
use Rattle.layout.proofs.Theorems.{length_numbers}
use Rattle.version_section.specs.Section.{section_of}
use Rattle.version_section.proofs.Laws.{section_there, section_past}
use Rattle.version_section.specs.Answers.{entries_of}
use Rattle.version_section.specs.declared.CountEntries.{CountEntries}
use Rattle.version_section.specs.declared.CountEntries.TheVariants.{Whole, Cut}
use Rattle.version_record.specs.Record.{layout, onward_at_of, write_of, write_out}
use Rattle.version_record.specs.declared.VersionRecord.{VersionRecord}
use Rattle.version_record.specs.declared.Onward.{Onward}
use Rattle.version_record.specs.declared.Onward.TheVariants.{Next, Last, Bad}
use Rattle.version_record.proofs.Laws.{onward_there, set_put}
use Rattle.version_list.specs.List.{row_at, Entries, ended, stopped, entry, follow, entries_from, flat, total_of, counted_of, out_of, record_limit, opened, list_of, list_out}
use Rattle.version_list.specs.Place.{place_after}

pub not_next : {n : ℕ} → Bad ≡ Next n → ⊥
not_next e = let z : ◌≡◌ {A = ℕ} 0 1 = cc in omega arith

pub not_last : Bad ≡ Last → ⊥
not_last e = let z : ◌≡◌ {A = ℕ} 0 1 = cc in omega arith

module _ (k : VersionRecord) (big : Bool) (s : List ℕ) where
  entries_go : (n at : ℕ) → 0 < n
      → entries_from k big s n at ≡ follow (onward_at_of k big s at) (row_at k big s at) (λ m. entries_from k big s (n - 1) (at + m))
  unfolding entries_from
  entries_go zero at h = absurd (not-suc-le-zero h)
  entries_go (suc n) at h = let p : suc n - 1 ≡ n = omega arith in rw p

  entries_none : (n at : ℕ) → n ≤ 0 → entries_from k big s n at ≡ ended
  unfolding entries_from
  entries_none n at h = let p : n ≡ 0 = omega arith in rw p

  -- The list, by what is at its place.
  module _ (n at : ℕ) where
    pub count_none : n ≤ 0 → (length (entries_from k big s n at).rows ≡ 0) × ((entries_from k big s n at).whole ≡ true)
    count_none h = rw (entries_none n at h) (refl, refl)

    with_next : {m : ℕ} → 0 < n → Next m ≡ onward_at_of k big s at
        → entries_from k big s n at ≡ entry (row_at k big s at) (entries_from k big s (n - 1) (at + m))
    with_next h e = rw (entries_go n at h, ← e)

    with_last : 0 < n → Last ≡ onward_at_of k big s at → entries_from k big s n at ≡ entry (row_at k big s at) ended
    with_last h e = rw (entries_go n at h, ← e)

    with_bad : 0 < n → Bad ≡ onward_at_of k big s at → entries_from k big s n at ≡ stopped
    with_bad h e = rw (entries_go n at h, ← e)

    -- how many entries that makes, and whether the list ends with them
    pub count_next : {m : ℕ} → 0 < n → Next m ≡ onward_at_of k big s at →
        (length (entries_from k big s n at).rows ≡ suc (length (entries_from k big s (n - 1) (at + m)).rows)) ×
        ((entries_from k big s n at).whole ≡ (entries_from k big s (n - 1) (at + m)).whole)
    count_next h e = (ap (λ (w : Entries). length w.rows) (with_next h e), ap (λ (w : Entries). w.whole) (with_next h e))

    pub count_last : 0 < n → Last ≡ onward_at_of k big s at
        → (length (entries_from k big s n at).rows ≡ 1) × ((entries_from k big s n at).whole ≡ true)
    count_last h e = (ap (λ (w : Entries). length w.rows) (with_last h e), ap (λ (w : Entries). w.whole) (with_last h e))

    pub count_bad : 0 < n → Bad ≡ onward_at_of k big s at
        → (length (entries_from k big s n at).rows ≡ 0) × ((entries_from k big s n at).whole ≡ false)
    count_bad h e = (ap (λ (w : Entries). length w.rows) (with_bad h e), ap (λ (w : Entries). w.whole) (with_bad h e))

  -- what is known of a list when `i` of its entries were passed, and the next is at `place`
  pub record Passed (n at i place : ℕ) : Type 0 where
    pub count : length (entries_from k big s n at).rows ≡ i + length (entries_from k big s (n - i) place).rows
    pub end : (entries_from k big s n at).whole ≡ (entries_from k big s (n - i) place).whole

  pub passed_none : (n at : ℕ) → Passed n at 0 at
  passed_none n at = let e : n - 0 ≡ n = omega arith in record { count = rw e (omega arith); end = rw e refl }

  module _ {n at i place : ℕ} (v : Passed n at i place) (h : i < n) where
    pub passed_next : {m : ℕ} → Next m ≡ onward_at_of k big s place → Passed n at (i + 1) (place + m)
    passed_next {m} e =
        let q = count_next (n - i) place (omega arith) e in
        let d : n - i - 1 ≡ n - (i + 1) = omega arith in
        record { count = v.count ∙ rw (q.0, d) (omega arith); end = v.end ∙ rw (q.1, d) refl }

    pub total_last : Last ≡ onward_at_of k big s place → Whole (i + 1) ≡ total_of (entries_from k big s n at)
    total_last e = let q = count_last (n - i) place (omega arith) e in rw (v.end, q.1, v.count, q.0) refl

    pub total_bad : Bad ≡ onward_at_of k big s place → Cut i ≡ total_of (entries_from k big s n at)
    total_bad e =
        let q = count_bad (n - i) place (omega arith) e in
        let z : i + 0 ≡ i = omega arith in
        rw (v.end, q.1, v.count, q.0, z) refl

  pub total_all : {n at i place : ℕ} → Passed n at i place → i ≡ n → Whole n ≡ total_of (entries_from k big s n at)
  total_all {n} {at} {i} {place} v h =
      let q = count_none (n - i) place (omega arith) in
      let z : i + 0 ≡ n = omega arith in
      rw (v.end, q.1, v.count, q.0, z) refl

  -- an entry that has a next is a whole record
  pub next_there : (at : ℕ) {m : ℕ} → Next m ≡ onward_at_of k big s at → at + size (layout k) ≤ length s
  next_there at e = onward_there k big s at (λ b. not_next (b ∙ sym e))

  pub last_there : (at : ℕ) → Last ≡ onward_at_of k big s at → at + size (layout k) ≤ length s
  last_there at e = onward_there k big s at (λ b. not_last (b ∙ sym e))

  -- the first entry of a list that has as many as it may have
  pub record First (n at : ℕ) : Type 0 where
    pub there : at + size (layout k) ≤ length s
    pub row : flat (entries_from k big s n at).rows ≡ row_at k big s at ++ flat
        (entries_from k big s (n - 1) (place_after at (onward_at_of k big s at))).rows
    pub rest : length (entries_from k big s (n - 1) (place_after at (onward_at_of k big s at))).rows ≡ n - 1

  by_onward : (n at : ℕ) (x : Onward) → x ≡ onward_at_of k big s at → 0 < n → length (entries_from k big s n at).rows ≡ n → First n at
  by_onward n at (Next m) e h l =
      let w : entries_from k big s n at ≡ entry (row_at k big s at) (entries_from k big s (n - 1) (at + m)) = with_next n at h e in
      let q : length (entries_from k big s n at).rows ≡ suc (length (entries_from k big s (n - 1) (at + m)).rows) = ap
      (λ (x : Entries). length x.rows) w in
      record { there = next_there at e; row = ap (λ (x : Entries). flat x.rows) w ∙ rw (← e); rest = rw (← e) (omega arith) }
  by_onward n at Last e h l =
      let w : entries_from k big s n at ≡ entry (row_at k big s at) ended = with_last n at h e in
      let q : length (entries_from k big s n at).rows ≡ 1 = ap (λ (x : Entries). length x.rows) w in
      let z : entries_from k big s (n - 1) at ≡ ended = entries_none (n - 1) at (omega arith) in
      record { there = last_there at e; row = ap (λ (x : Entries). flat x.rows) w ∙ rw (← e, z); rest = rw (← e, z) (omega arith) }
  by_onward n at Bad e h l =
      let w : entries_from k big s n at ≡ stopped = with_bad n at h e in
      let q : length (entries_from k big s n at).rows ≡ 0 = ap (λ (x : Entries). length x.rows) w in
      absurd (let z : 1 ≤ 0 = omega arith in not-suc-le-zero z)

  pub first_of_lem : (n at : ℕ) → 0 < n → length (entries_from k big s n at).rows ≡ n → First n at
  first_of_lem n at h l = by_onward n at (onward_at_of k big s at) refl h l

  -- What holds of each list, by what is at its places.
  module _ (P : ℕ → ℕ → Entries → Type 0) (none : (at : ℕ) → P 0 at ended)
      (next : (n at m : ℕ) (w : Entries) → Next m ≡ onward_at_of k big s at → P n (at + m) w → P (suc n) at (entry (row_at k big s at) w))
      (last : (n at : ℕ) → Last ≡ onward_at_of k big s at → P (suc n) at (entry (row_at k big s at) ended))
      (bad : (n at : ℕ) → Bad ≡ onward_at_of k big s at → P (suc n) at stopped) where
    entries_at : (n at : ℕ) → ((i : ℕ) → P n i (entries_from k big s n i)) → (x : Onward) → x ≡ onward_at_of k big s at
        → P (suc n) at (follow x (row_at k big s at) (λ m. entries_from k big s n (at + m)))
    entries_at n at ih (Next m) e = next n at m (entries_from k big s n (at + m)) e (ih (at + m))
    entries_at n at ih Last e = last n at e
    entries_at n at ih Bad e = bad n at e

    pub entries_all : (n at : ℕ) → P n at (entries_from k big s n at)
    unfolding entries_from
    entries_all zero at = none at
    entries_all (suc n) at = entries_at n at (λ i. entries_all n i) (onward_at_of k big s at) refl

  -- there are at most as many entries as are stated
  pub few : (n at : ℕ) → length (entries_from k big s n at).rows ≤ n
  few = entries_all (λ n at w. length w.rows ≤ n) (λ at. omega arith) (λ n at m w e h. omega arith) (λ n at e. omega arith)
      (λ n at e. omega arith)

  -- each entry is a row of one length
  pub length_flat : (n at : ℕ)
      → length (flat (entries_from k big s n at).rows) ≡ length (entries_from k big s n at).rows * suc (length (layout k))
  length_flat =
      entries_all (λ n at w. length (flat w.rows) ≡ length w.rows * suc (length (layout k))) (λ at. omega arith)
      (λ n at m w e h. omega (arith, length-append (row_at k big s at) (flat w.rows), length_numbers big (layout k) s at))
      (λ n at e. omega (arith, length-append (row_at k big s at) [], length_numbers big (layout k) s at))
      (λ n at e. omega arith)

  -- following for as many entries as there are finds the same entries
  exact : (n at : ℕ) → (entries_from k big s (length (entries_from k big s n at).rows) at).rows ≡ (entries_from k big s n at).rows
  exact =
      entries_all (λ n at w. (entries_from k big s (length w.rows) at).rows ≡ w.rows)
      (λ at. ap (λ (w : Entries). w.rows) (entries_none 0 at (omega arith)))
      (λ n at m w e h.
      let p : suc (length w.rows) - 1 ≡ length w.rows = omega arith in
      rw (with_next (suc (length w.rows)) at (omega arith) e, p) (ap (λ (l : List (List ℕ)). row_at k big s at ∷ l) h))
      (λ n at e. ap (λ (w : Entries). w.rows) (with_last 1 at (omega arith) e))
      (λ n at e. ap (λ (w : Entries). w.rows) (entries_none 0 at (omega arith)))

pub more : (n c : ℕ) → 0 < n → c + (n - 1) * c ≡ n * c
more zero c h = absurd (not-suc-le-zero h)
more (suc n) c h = let p : suc n - 1 ≡ n = omega arith in rw p (omega arith)

entries_by : (b : Bool) (n : ℕ) → entries_of (pick b (Whole n) (Cut n)) ≡ n
entries_by true n = refl
entries_by false n = refl

-- the number in the count of a list is that of its entries
pub entries_total : (w : Entries) {x : CountEntries} {n : ℕ} → x ≡ total_of w → n ≡ entries_of x → n ≡ length w.rows
entries_total w e f = f ∙ ap entries_of e ∙ entries_by w.whole (length w.rows)

-- the rows that the second pass follows are those that the first counted
module _ (k : VersionRecord) (big : Bool) (s : List ℕ) (n at : ℕ) {entries : ℕ} (e : entries ≡ length (entries_from k big s n at).rows)
  where
    pub same_rows : (entries_from k big s entries at).rows ≡ (entries_from k big s n at).rows
    same_rows = rw e (exact k big s n at)

    pub all_rows : length (entries_from k big s entries at).rows ≡ entries
    all_rows = ap length same_rows ∙ sym e

pub product : (a c : ℕ) → a ≤ 65535 → c ≤ 8 → a * c ≤ 65535 * 8
product a c h r = mul-le-mul h r

-- how many numbers the rows have, as the code reckons it
pub rows_room : (k : VersionRecord) (big : Bool) (s : List ℕ) (n at entries fields : ℕ) → entries ≡ length (entries_from k big s n at).rows
    → fields ≡ length (layout k) → entries * (fields + 1) ≡ length (flat (entries_from k big s n at).rows)
rows_room k big s n at entries fields e f = rw (e, f, add-one (length (layout k))) (sym (length_flat k big s n at))

-- the numbers of a record that is whole have room after its place
pub row_room : (k : VersionRecord) (s : List ℕ) (at : ℕ) (o : List ℕ) (base : ℕ) → at + size (layout k) ≤ length s
    → base + suc (length (layout k)) ≤ length o → write_of k s at (set o base at) (base + 1) ≡ Ok tt
unfolding write_of written_in
row_room k s at o base h r =
    let l : length (set o base at) ≡ length o = length-set o base at in
    rw (le-leb (at + size (layout k)) (length s) h, l, le-leb (base + 1 + length (layout k)) (length o) (omega arith)) refl

-- Writing rows one after the other.
module _ (k : VersionRecord) (big : Bool) (s : List ℕ) where
  -- a row is its place and then the numbers of its fields
  pub row_put : (at : ℕ) (o l : List ℕ) (base : ℕ) → at + size (layout k) ≤ length s → base + suc (length (layout k)) ≤ length o
      → l ≡ write_out k big s at (set o base at) (base + 1) → l ≡ put o base (row_at k big s at)
  unfolding write_out
  row_put at o l base h r e =
      let ns : List ℕ = numbers_at big (layout k) s at in
      let n : length ns ≡ length (layout k) = length_numbers big (layout k) s at in
      let f : l ≡ stored (set o base at) (base + 1) ns = e ∙ rw (le-leb (at + size (layout k)) (length s) h) in
      let g : l ≡ put (set o base at) (base + 1) ns = stored_put (length (layout k)) (set o base at) (base + 1) ns n
      (simp length-set (omega arith)) f in
      g ∙ rw (set_put o base at (omega arith)) (put_both o base (base + 1) (at ∷ []) ns (omega arith) (omega arith))

  -- the rest of a list is written after its first row
  pub rest_put : (n at : ℕ) (f o l : List ℕ) (base : ℕ) → First k big s n at → f ≡ put o base (flat (entries_from k big s n at).rows)
      → l ≡ put o base (row_at k big s at) → base + n * suc (length (layout k)) ≤ length o → 0 < n
      → (f ≡ put l (base + suc (length (layout k))) (flat (entries_from k big s (n - 1) (place_after at (onward_at_of k big s at))).rows)) ×
      (length l ≡ length o)
  rest_put n at f o l base i e g r h =
      let rest : List ℕ = flat (entries_from k big s (n - 1) (place_after at (onward_at_of k big s at))).rows in
      let a : length (row_at k big s at) ≡ suc (length (layout k)) = ap suc (length_numbers big (layout k) s at) in
      let b : length rest ≡ (n - 1) * suc (length (layout k)) = length_flat k big s (n - 1) (place_after at (onward_at_of k big s at)) ∙ rw
      i.rest in
      let p : suc (length (layout k)) + (n - 1) * suc (length (layout k)) ≡ n * suc (length (layout k)) = more n (suc (length (layout k))) h
      in
      let j : put (put o base (row_at k big s at)) (base + suc (length (layout k))) rest ≡ put o base (row_at k big s at ++ rest) = put_both o
      base (base + suc (length (layout k))) (row_at k big s at) rest (omega arith) (omega arith) in
      (e ∙ rw (i.row, g) (sym j), ap length g ∙ length_put o base (row_at k big s at) (omega arith))

  -- nothing is left to write
  pub all_put : (n at : ℕ) (f o : List ℕ) (base : ℕ) → n ≤ 0 → base ≤ length o → f ≡ put o base (flat (entries_from k big s n at).rows)
      → o ≡ f
  all_put n at f o base h r e = put_sets o base [] (omega arith) ∙ sym (e ∙ rw (entries_none k big s n at h))

-- What a door on a section's bytes answers and leaves: a law for each way that it comes about.
module _ (w : Entries) (o : List ℕ) where
  pub counted_full : {q : Refusal} → length o < length (flat w.rows) → q ≡ refuse_of room → (Err q ≡ counted_of w o) × (o ≡ out_of w o)
  unfolding counted_of out_of
  counted_full h e = (
    must_off _ _ _ _ (lt-leb (length (flat w.rows)) (length o) h) e,
    (store_refused (length (flat w.rows)) o 0 (flat w.rows) refl
        (omega arith) e).1,
  )

  pub counted_done : {x : CountEntries} {l : List ℕ} → length (flat w.rows) ≤ length o → x ≡ total_of w → l ≡ put o 0 (flat w.rows)
      → (Ok x ≡ counted_of w o) × (l ≡ out_of w o)
  unfolding counted_of out_of
  counted_done h e f = (
    must_on _ _ _ _ (le-leb (length (flat w.rows)) (length o) h) (ap Ok e),
    (store_done (length (flat w.rows)) o 0 (flat w.rows) refl
        (omega arith) f).1,
  )

-- The checks of a door: a law for each way that its answer and what it leaves come about.
module _ (k : VersionRecord) (big : Bool) (file : List ℕ) (start len stated at : ℕ) (o : List ℕ) where
  pub long_file : {q : Refusal} → file_limit < length file → q ≡ refuse_of limit
      → (Err q ≡ list_of k big file start len stated at o) × (o ≡ list_out k big file start len stated at o)
  unfolding list_of list_out opened
  long_file h e = (must_off _ _ _ _ (lt-leb (length file) file_limit h) e, must_off (λ r. o) _ _ _ (lt-leb (length file) file_limit h) e)

  module _ (l : length file ≤ file_limit) where
    pub many_stated : {q : Refusal} → record_limit < stated → q ≡ refuse_of limit
        → (Err q ≡ list_of k big file start len stated at o) × (o ≡ list_out k big file start len stated at o)
    unfolding list_of list_out opened
    many_stated h e =
        let f = le-leb (length file) file_limit l in
        let n = lt-leb stated record_limit h in
        (must_on _ _ _ _ f (must_off _ _ _ _ n e), must_on _ _ _ _ f (must_off (λ r. o) _ _ _ n e))

    module _ (m : stated ≤ record_limit) where
      pub past_file_lem : {q : Refusal} → leb (start + len) (length file) ≡ false → q ≡ cut_of (start + len)
          → (Err q ≡ list_of k big file start len stated at o) × (o ≡ list_out k big file start len stated at o)
      unfolding list_of list_out opened
      past_file_lem h e =
          let f = le-leb (length file) file_limit l in
          let n = le-leb stated record_limit m in (
            must_on _ _ _ _ f (must_on _ _ _ _ n (section_past file start len _ _ h e)),
            must_on _ _ _ _ f
                (must_on _ _ _ _ n (section_past file start len (λ r. o) _ h e)),
          )

      pub in_file_lem : {x : Result CountEntries Refusal} {r : List ℕ} → leb (start + len) (length file) ≡ true →
          (x ≡ counted_of (entries_from k big (section_of file start len) stated at) o) ×
          (r ≡ out_of (entries_from k big (section_of file start len) stated at) o) → (x ≡ list_of k big file start len stated at o) ×
          (r ≡ list_out k big file start len stated at o)
      unfolding list_of list_out opened
      in_file_lem h e =
          let f = le-leb (length file) file_limit l in
          let n = le-leb stated record_limit m in (
            must_on _ _ _ _ f (must_on _ _ _ _ n (section_there file start len _ _ h e.0)),
            must_on _ _ _ _ f
                (must_on _ _ _ _ n (section_there file start len _ _ h e.1)),
          )
