-- What is proved of the section of version needs, for every input. `version_list` has the theorems on lists.
-- Assumes nothing.
use Rattle.std.specs.Prelude.{Result, Err}
use Rattle.answer.specs.declared.Refusal.{Refusal}
use mathlib.Core.Path.{◌≡◌}
use mathlib.Core.List.{List, [], ◌∷◌}
use mathlib.Core.Bool.{Bool, true}
use Prim.Native.Nat.{ℕ, ◌+◌, ◌<◌}
use lib.ListN.{length, get_or, drop}
use lib.Seq.{get_or-drop}
use borrow.Author.Tests.{ltb-true}
use Rattle.answer.specs.Answer.{refuse_of, limit}
use Rattle.answer.proofs.Unique.{same_both}
use Rattle.layout.specs.Layout.{the, numbers_at}
use Rattle.version_section.specs.declared.CountEntries.{CountEntries}
use Rattle.version_record.specs.Record.{fields, layout, aux_inside}
use Rattle.version_record.specs.declared.VersionRecord.TheVariants.{Verneed, Vernaux}
use Rattle.version_list.specs.List.{row_at, entries_from, record_limit}
use Rattle.version_list.proofs.Theorems.{Each, each_so, auxiliaries_inside}
use Rattle.version_list.proofs.Theorems as list
use Rattle.verneed.specs.Verneed.{needs_of, needs_out, auxiliaries_of, auxiliaries_out}

-- The row of a need has its place and then its fields by name.
pub need_row : (big : Bool) (s : List ℕ) (at : ℕ) (ns : List ℕ) → ns ≡ numbers_at big (layout Verneed) s at
    → row_at Verneed big s at ≡ at ∷ the (fields Verneed) "vn_version" ns ∷ the (fields Verneed) "vn_cnt" ns ∷ the (fields Verneed) "vn_file"
    ns ∷ the (fields Verneed) "vn_aux" ns ∷ the (fields Verneed) "vn_next" ns ∷ []
unfolding numbers_at
need_row big s at ns e = rw e

column : (len : ℕ) (r : List ℕ) → aux_inside Verneed len (get_or r 0 0) (drop 1 r) ≡ true → get_or r 0 0 + get_or r 4 0 < len
unfolding aux_inside
column len r h = rw (get_or-drop 1 r 3 0) at (ltb-true (get_or r 0 0 + get_or (drop 1 r) 3 0) len h)

-- The place of each listed need and its vn_aux, of which its auxiliaries are asked for, come to a place in the section.
pub auxiliaries_start_inside : (big : Bool) (s : List ℕ) (stated : ℕ)
    → Each (λ r. get_or r 0 0 + get_or r 4 0 < length s) (entries_from Verneed big s stated 0).rows
auxiliaries_start_inside big s stated =
    each_so (λ r. aux_inside Verneed (length s) (get_or r 0 0) (drop 1 r) ≡ true) (λ r. get_or r 0 0 + get_or r 4 0 < length s)
    (λ r h. column (length s) r h) (entries_from Verneed big s stated 0).rows (auxiliaries_inside Verneed big s stated 0)

-- More than 65,535 stated is 3, of needs and of auxiliaries, whatever else is passed.
pub too_many : (big : Bool) (file : List ℕ) (start len stated : ℕ) (o : List ℕ) → record_limit < stated
    → Err (refuse_of limit) ≡ needs_of big file start len stated o
unfolding needs_of
too_many big file start len stated o h = list.too_many Verneed big file start len stated 0 o h

pub too_many_auxiliaries : (big : Bool) (file : List ℕ) (start len place aux cnt : ℕ) (o : List ℕ) → record_limit < cnt
    → Err (refuse_of limit) ≡ auxiliaries_of big file start len place aux cnt o
unfolding auxiliaries_of
too_many_auxiliaries big file start len place aux cnt o h = list.too_many Vernaux big file start len cnt (place + aux) o h

-- Two answers that meet a promise of this crate are equal, and so are the lists that they leave.
pub needs_unique : (file : List ℕ) (start len stated : ℕ) (big : Bool) (o : List ℕ) {r q : Result CountEntries Refusal} {l m : List ℕ}
    → (r ≡ needs_of big file start len stated o) × (l ≡ needs_out big file start len stated o)
    → (q ≡ needs_of big file start len stated o) × (m ≡ needs_out big file start len stated o)
    → (r ≡ q) × (l ≡ m)
needs_unique file start len stated big o = same_both

pub auxiliaries_unique : (file : List ℕ) (start len place aux cnt : ℕ) (big : Bool) (o : List ℕ) {r q : Result CountEntries Refusal} {l m : List ℕ}
    → (r ≡ auxiliaries_of big file start len place aux cnt o) × (l ≡ auxiliaries_out big file start len place aux cnt o)
    → (q ≡ auxiliaries_of big file start len place aux cnt o) × (m ≡ auxiliaries_out big file start len place aux cnt o)
    → (r ≡ q) × (l ≡ m)
auxiliaries_unique file start len place aux cnt big o = same_both
