-- What is proved of a list of version records, for every input. That it ends is that `entries_from` goes down the stated count.
-- Assumes nothing.
use Rattle.std.specs.Prelude.{Result, Ok, Err}
use mathlib.Core.Path.{◌≡◌, refl, sym, ap, ◌∙◌}
use mathlib.Core.List.{List, [], ◌∷◌, ◌++◌}
use mathlib.Core.Logic.{⊎_elim}
use mathlib.Core.Bool.{Bool, true, not}
use Prim.Native.Nat.{ℕ, zero, suc, ◌+◌, ◌≤◌, ◌<◌}
use native.Mathlib.Omega.{arith}
use lib.ListN.{length, get_or, take, drop, length-take, length-drop}
use lib.Seq.{drop_at}
use borrow.Author.Tests.{le-leb, lt-leb}
use Rattle.answer.specs.Answer.{refuse_of, cut_of, limit}
use Rattle.answer.specs.Test.{file_limit}
use Rattle.answer.specs.declared.Refusal.{Refusal}
use Rattle.answer.proofs.Laws.{must_on}
use Rattle.answer.proofs.Unique.{same_both}
use Rattle.fields.specs.Field.{put, stored}
use Rattle.fields.proofs.Laws.{le_or_lt, length_put, stored_put}
use Rattle.fields.proofs.Theorems.{stored_refused}
use Rattle.layout.specs.Layout.{size}
use Rattle.version_section.specs.Section.{section_of, in_file}
use Rattle.version_section.specs.declared.CountEntries.{CountEntries}
use Rattle.version_section.proofs.Order.{Mirrored, numbers_mirrored}
use Rattle.version_record.specs.Record.{layout, aux_inside, onward_at_of}
use Rattle.version_record.specs.declared.VersionRecord.{VersionRecord}
use Rattle.version_record.specs.declared.Onward.{Onward}
use Rattle.version_record.specs.declared.Onward.TheVariants.{Next, Last, Bad}
use Rattle.version_record.proofs.Laws.{onward_aux}
use Rattle.version_record.proofs.Theorems.{onward_mirrored}
use Rattle.version_list.specs.List.{row_at, Entries, ended, entry, follow, entries_from, flat, total_of, counted_of, out_of, record_limit, opened, list_of, list_out}
use Rattle.version_list.proofs.Laws.{not_next, not_last, few, entries_all, next_there, last_there, counted_full, long_file, many_stated, past_file_lem, in_file_lem}

-- A list has at most as many entries as are stated.
pub at_most_stated : (k : VersionRecord) (big : Bool) (s : List ℕ) (stated at : ℕ) → length (entries_from k big s stated at).rows ≤ stated
at_most_stated = few

-- each of the rows
abbrev pub Each : (List ℕ → Type 0) → List (List ℕ) → Type 0
Each P [] = Unit
Each P (r ∷ rs) = P r × Each P rs

pub each_so : (P Q : List ℕ → Type 0) → ((r : List ℕ) → P r → Q r) → (rs : List (List ℕ)) → Each P rs → Each Q rs
each_so P Q f [] h = tt
each_so P Q f (r ∷ rs) h = (f r h.0, each_so P Q f rs h.1)

-- Each entry lies in the section, and is the row of the record at its place.
pub entries_inside : (k : VersionRecord) (big : Bool) (s : List ℕ) (stated at : ℕ)
    → Each (λ r. (get_or r 0 0 + size (layout k) ≤ length s) × (r ≡ row_at k big s (get_or r 0 0))) (entries_from k big s stated at).rows
entries_inside k big s =
    entries_all k big s (λ n at w. Each (λ r. (get_or r 0 0 + size (layout k) ≤ length s) × (r ≡ row_at k big s (get_or r 0 0))) w.rows)
    (λ at. tt)
    (λ n at m w e h. ((next_there k big s at e, refl), h))
    (λ n at e. ((last_there k big s at e, refl), tt))
    (λ n at e. tt)

-- The first auxiliary of each entry, if it is of a kind that has some, is in the section.
pub auxiliaries_inside : (k : VersionRecord) (big : Bool) (s : List ℕ) (stated at : ℕ)
    → Each (λ r. aux_inside k (length s) (get_or r 0 0) (drop 1 r) ≡ true) (entries_from k big s stated at).rows
auxiliaries_inside k big s =
    entries_all k big s (λ n at w. Each (λ r. aux_inside k (length s) (get_or r 0 0) (drop 1 r) ≡ true) w.rows) (λ at. tt)
    (λ n at m w e h. (onward_aux k big s at (λ b. not_next (b ∙ sym e)), h))
    (λ n at e. (onward_aux k big s at (λ b. not_last (b ∙ sym e)), tt))
    (λ n at e. tt)

-- A next of 0 ends the list: it has that entry alone, and ends well.
pub zero_ends : (k : VersionRecord) (big : Bool) (s : List ℕ) (stated at : ℕ) → Last ≡ onward_at_of k big s at
    → entries_from k big s (suc stated) at ≡ entry (row_at k big s at) ended
unfolding entries_from
zero_ends k big s stated at e = rw (← e)

-- The stated count ends it too.
pub count_ends : (k : VersionRecord) (big : Bool) (s : List ℕ) (at : ℕ) → entries_from k big s 0 at ≡ ended
unfolding entries_from
count_ends k big s at = refl

put_front : (o f : List ℕ) → put o 0 f ≡ f ++ drop (length f) o
unfolding put
put_front o f = let z : 0 + length f ≡ length f = omega arith in rw z

-- What is after the entries stays as it was, and so does all of the list where they do not fit.
pub rest_stays : (w : Entries) (o : List ℕ)
    → (length (out_of w o) ≡ length o) × (drop (length (flat w.rows)) (out_of w o) ≡ drop (length (flat w.rows)) o)
unfolding out_of
rest_stays w o =
    let f : List ℕ = flat w.rows in
    ⊎_elim
    (λ (h : length f ≤ length o).
    let p : stored o 0 f ≡ put o 0 f = stored_put (length f) o 0 f refl (omega arith) refl in (
      ap length p ∙ length_put o 0 f (omega arith),
      ap (λ (l : List ℕ). drop (length f) l) (p ∙ put_front o f) ∙ drop_at f
          (drop (length f) o) (length f) refl,
    ))
    (λ (h : length o < length f).
    let p : stored o 0 f ≡ o = stored_refused o 0 f (omega arith) in
    (ap length p, ap (λ (l : List ℕ). drop (length f) l) p))
    (le_or_lt (length f) (length o))

-- The entries are at the front, one after the other, where they fit.
pub entries_in_front : (w : Entries) (o : List ℕ) → length (flat w.rows) ≤ length o
    → out_of w o ≡ flat w.rows ++ drop (length (flat w.rows)) o
unfolding out_of
entries_in_front w o h = stored_put (length (flat w.rows)) o 0 (flat w.rows) refl (omega arith) refl ∙ put_front o (flat w.rows)

not_refused : {x : CountEntries} {q : Refusal} → Ok x ≡ Err q → ⊥
not_refused e = let z : ◌≡◌ {A = ℕ} 0 1 = cc in omega arith

counted_refused : (w : Entries) (o : List ℕ) {q : Refusal} → counted_of w o ≡ Err q → out_of w o ≡ o
unfolding counted_of
counted_refused w o e =
    ⊎_elim
    (λ h.
    let c : Ok (total_of w) ≡ counted_of w o = must_on _ _ _ _
    (le-leb (length (flat w.rows)) (length o) h) refl in
    absurd (not_refused (c ∙ e)))
    (λ h. sym (counted_full w o h refl).1)
    (le_or_lt (length (flat w.rows)) (length o))

module _ (k : VersionRecord) (big : Bool) (file : List ℕ) (start len stated at : ℕ) (o : List ℕ) where
  -- A refusal leaves the caller's list as it was.
  pub refused_leaves : {q : Refusal} → list_of k big file start len stated at o ≡ Err q → list_out k big file start len stated at o ≡ o
  refused_leaves e =
      ⊎_elim
      (λ l.
      ⊎_elim
      (λ m.
      ⊎_elim
      (λ i.
      let d = in_file_lem k big file start len stated at o l m (le-leb (start + len) (length file) i) (refl, refl) in
      sym d.1 ∙ counted_refused (entries_from k big (section_of file start len) stated at) o (d.0 ∙ e))
      (λ i. sym (past_file_lem k big file start len stated at o l m (lt-leb (start + len) (length file) i) refl).1)
      (le_or_lt (start + len) (length file)))
      (λ m. sym (many_stated k big file start len stated at o l m refl).1)
      (le_or_lt stated record_limit))
      (λ l. sym (long_file k big file start len stated at o l refl).1)
      (le_or_lt (length file) file_limit)

  -- More than 65,535 records stated is 3, before the section is looked at, however long the file is.
  pub too_many : record_limit < stated → Err (refuse_of limit) ≡ list_of k big file start len stated at o
  too_many m =
      ⊎_elim (λ l. (many_stated k big file start len stated at o l m refl).0) (λ l. (long_file k big file start len stated at o l refl).0)
      (le_or_lt (length file) file_limit)

  -- A section that reaches past the file is refused at its end.
  pub past_refused : length file ≤ file_limit → stated ≤ record_limit → length file < start + len
      → Err (cut_of (start + len)) ≡ list_of k big file start len stated at o
  past_refused l m h = (past_file_lem k big file start len stated at o l m (lt-leb (start + len) (length file) h) refl).0

  -- Two answers that meet the promise are equal, and so are the lists that they leave.
  pub list_unique : {r q : Result CountEntries Refusal} {l m : List ℕ}
      → (r ≡ list_of k big file start len stated at o) × (l ≡ list_out k big file start len stated at o)
      → (q ≡ list_of k big file start len stated at o) × (m ≡ list_out k big file start len stated at o) → (r ≡ q) × (l ≡ m)
  list_unique = same_both

-- what is asked of the place after an entry that has one
abbrev pub OnNext : Onward → (ℕ → Type 0) → Type 0
OnNext (Next m) P = P m
OnNext Last P = Unit
OnNext Bad P = Unit

-- each whole record on the way of a list in `s` is in `t` with the bytes of each field reversed
abbrev pub Mirrors : VersionRecord → Bool → List ℕ → List ℕ → ℕ → ℕ → Type 0
Mirrors k big s t zero at = Unit
Mirrors k big s t (suc n) at = (at + size (layout k) ≤ length s → Mirrored (layout k) s t at) × OnNext (onward_at_of k big s at)
    (λ m. Mirrors k big s t n (at + m))

module _ (k : VersionRecord) (big : Bool) (s t : List ℕ) where
  by_onward : (n at : ℕ) → (at + size (layout k) ≤ length s → Mirrored (layout k) s t at) → (x : Onward) → x ≡ onward_at_of k big s at
      → ((m : ℕ) → Mirrors k big s t n (at + m) → entries_from k (not big) t n (at + m) ≡ entries_from k big s n (at + m))
      → OnNext x (λ m. Mirrors k big s t n (at + m))
      → follow x (row_at k (not big) t at) (λ m. entries_from k (not big) t n (at + m)) ≡ follow x (row_at k big s at) (λ m. entries_from k big s n (at + m))
  by_onward n at r (Next m) e ih h = rw (numbers_mirrored big (layout k) s t at (r (next_there k big s at e)), ih m h)
  by_onward n at r Last e ih h = rw (numbers_mirrored big (layout k) s t at (r (last_there k big s at e)))
  by_onward n at r Bad e ih h = refl

  -- A list in one order is that of the byte-swapped section in the other.
  pub entries_mirrored : length t ≡ length s → (n at : ℕ) → Mirrors k big s t n at
      → entries_from k (not big) t n at ≡ entries_from k big s n at
  unfolding entries_from
  entries_mirrored l zero at h = refl
  entries_mirrored l (suc n) at h = rw (onward_mirrored k big s t at l h.0)
      (by_onward n at h.0 (onward_at_of k big s at) refl (λ m i. entries_mirrored l n (at + m) i) h.1)

-- The same of the doors: of two files of one length whose sections are each other's byte-swapped.
pub list_mirrored : (k : VersionRecord) (big : Bool) (f g : List ℕ) (start len stated at : ℕ) (o : List ℕ) → length g ≡ length f → Mirrors k
    big (section_of f start len) (section_of g start len) stated at →
    (list_of k (not big) g start len stated at o ≡ list_of k big f start len stated at o) ×
    (list_out k (not big) g start len stated at o ≡ list_out k big f start len stated at o)
unfolding list_of list_out opened section_of in_file
list_mirrored k big f g start len stated at o l h =
    let q : length (take len (drop start g)) ≡ length (take len (drop start f)) = simp (length-take, length-drop, l) in
    let w : entries_from k (not big) (take len (drop start g)) stated at ≡ entries_from k big (take len (drop start f)) stated at =
    entries_mirrored k big (take len (drop start f)) (take len (drop start g)) q stated at h in
    (rw (l, w), rw (l, w))
