-- What is proved of the section of version definitions, for every input. `version_list` has the theorems on lists.
-- Assumes nothing.
use Rattle.std.specs.Prelude.{Result, Err}
use Rattle.answer.specs.declared.Refusal.{Refusal}
use mathlib.Core.Path.{◌≡◌}
use mathlib.Core.List.{List, [], ◌∷◌}
use mathlib.Core.Bool.{Bool, true}
use Prim.Native.Nat.{ℕ, ◌+◌, ◌<◌}
use lib.ListN.{length, get_or, drop}
use lib.Seq.{get_or-drop}
use borrow.Author.Tests.{ltb-true}
use Rattle.answer.specs.Answer.{refuse_of, limit}
use Rattle.answer.proofs.Unique.{same_both}
use Rattle.layout.specs.Layout.{the, numbers_at}
use Rattle.version_section.specs.declared.CountEntries.{CountEntries}
use Rattle.version_record.specs.Record.{fields, layout, aux_inside}
use Rattle.version_record.specs.declared.VersionRecord.TheVariants.{Verdef, Verdaux}
use Rattle.version_list.specs.List.{row_at, entries_from, record_limit}
use Rattle.version_list.proofs.Theorems.{Each, each_so, auxiliaries_inside}
use Rattle.version_list.proofs.Theorems as list
use Rattle.verdef.specs.Verdef.{definitions_of, definitions_out, auxiliaries_of, auxiliaries_out}

-- The row of a definition has its place and then its fields by name.
pub definition_row : (big : Bool) (s : List ℕ) (at : ℕ) (ns : List ℕ) → ns ≡ numbers_at big (layout Verdef) s at
    → row_at Verdef big s at ≡ at ∷ the (fields Verdef) "vd_version" ns ∷ the (fields Verdef) "vd_flags" ns ∷ the (fields Verdef) "vd_ndx" ns
    ∷ the (fields Verdef) "vd_cnt" ns ∷ the (fields Verdef) "vd_hash" ns ∷ the (fields Verdef) "vd_aux" ns ∷ the (fields Verdef)
    "vd_next" ns ∷ []
unfolding numbers_at
definition_row big s at ns e = rw e

column : (len : ℕ) (r : List ℕ) → aux_inside Verdef len (get_or r 0 0) (drop 1 r) ≡ true → get_or r 0 0 + get_or r 6 0 < len
unfolding aux_inside
column len r h = rw (get_or-drop 1 r 5 0) at (ltb-true (get_or r 0 0 + get_or (drop 1 r) 5 0) len h)

-- The place of each listed definition and its vd_aux, of which its auxiliaries are asked for, come to a place in the section.
pub auxiliaries_start_inside : (big : Bool) (s : List ℕ) (stated : ℕ)
    → Each (λ r. get_or r 0 0 + get_or r 6 0 < length s) (entries_from Verdef big s stated 0).rows
auxiliaries_start_inside big s stated =
    each_so (λ r. aux_inside Verdef (length s) (get_or r 0 0) (drop 1 r) ≡ true) (λ r. get_or r 0 0 + get_or r 6 0 < length s)
    (λ r h. column (length s) r h) (entries_from Verdef big s stated 0).rows (auxiliaries_inside Verdef big s stated 0)

-- More than 65,535 stated is 3, of definitions and of auxiliaries, whatever else is passed.
pub too_many : (big : Bool) (file : List ℕ) (start len stated : ℕ) (o : List ℕ) → record_limit < stated
    → Err (refuse_of limit) ≡ definitions_of big file start len stated o
unfolding definitions_of
too_many big file start len stated o h = list.too_many Verdef big file start len stated 0 o h

pub too_many_auxiliaries : (big : Bool) (file : List ℕ) (start len place aux cnt : ℕ) (o : List ℕ) → record_limit < cnt
    → Err (refuse_of limit) ≡ auxiliaries_of big file start len place aux cnt o
unfolding auxiliaries_of
too_many_auxiliaries big file start len place aux cnt o h = list.too_many Verdaux big file start len cnt (place + aux) o h

-- Two answers that meet a promise of this crate are equal, and so are the lists that they leave.
pub definitions_unique : (file : List ℕ) (start len stated : ℕ) (big : Bool) (o : List ℕ) {r q : Result CountEntries Refusal} {l m : List ℕ}
    → (r ≡ definitions_of big file start len stated o) × (l ≡ definitions_out big file start len stated o)
    → (q ≡ definitions_of big file start len stated o) × (m ≡ definitions_out big file start len stated o)
    → (r ≡ q) × (l ≡ m)
definitions_unique file start len stated big o = same_both

pub auxiliaries_unique : (file : List ℕ) (start len place aux cnt : ℕ) (big : Bool) (o : List ℕ) {r q : Result CountEntries Refusal} {l m : List ℕ}
    → (r ≡ auxiliaries_of big file start len place aux cnt o) × (l ≡ auxiliaries_out big file start len place aux cnt o)
    → (q ≡ auxiliaries_of big file start len place aux cnt o) × (m ≡ auxiliaries_out big file start len place aux cnt o)
    → (r ≡ q) × (l ≡ m)
auxiliaries_unique file start len place aux cnt big o = same_both
