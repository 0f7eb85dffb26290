-- What is proved of the four version records, for every input.
-- Assumes nothing.
use Rattle.std.specs.Prelude.{Result}
use Rattle.answer.specs.declared.Refusal.{Refusal}
use mathlib.Core.Path.{◌≡◌, refl, sym}
use mathlib.Core.List.{List}
use mathlib.Core.Bool.{Bool, true, not}
use Prim.Native.Nat.{ℕ, ◌+◌, ◌≤◌, ◌<◌}
use native.Mathlib.Omega.{arith}
use lib.Dec.{T}
use lib.ListN.{length}
use borrow.Author.Tests.{le-ltb, eq-eqb}
use Rattle.answer.specs.Test.{pick}
use Rattle.answer.proofs.Unique.{same, same_both}
use Rattle.layout.specs.Layout.{placed, the, size, numbers_at}
use Rattle.version_section.proofs.Order.{Mirrored, read_mirrored}
use Rattle.version_record.specs.Record.{fields, layout, next, aux_inside, onward_by, onward_at_of, write_of, write_out, fields_of}
use Rattle.version_record.specs.declared.VersionRecord.{VersionRecord}
use Rattle.version_record.specs.declared.VersionRecord.TheVariants.{Verdef, Verdaux, Verneed, Vernaux}
use Rattle.version_record.specs.declared.Onward.{Onward}
use Rattle.version_record.specs.declared.Onward.TheVariants.{Last, Bad}
use Rattle.version_record.proofs.Laws.{sized, onward_there, onward_past, judged}

-- Each field of a table is where the one before it ends.
pub fields_placed : (k : VersionRecord) → T (placed 0 (fields k))
fields_placed Verdef = tt
fields_placed Verdaux = tt
fields_placed Verneed = tt
fields_placed Vernaux = tt

-- A record at a place of a list lies in the section.
pub record_inside : (k : VersionRecord) (big : Bool) (s : List ℕ) (at : ℕ) → (Bad ≡ onward_at_of k big s at → ⊥)
    → at + size (layout k) ≤ length s
record_inside = onward_there

-- A next of 0 ends the list.
pub zero_ends : (k : VersionRecord) (big : Bool) (s : List ℕ) (at : ℕ) → at + size (layout k) ≤ length s
    → aux_inside k (length s) at (numbers_at big (layout k) s at) ≡ true → next k (numbers_at big (layout k) s at) ≡ 0
    → Last ≡ onward_at_of k big s at
zero_ends k big s at h a z = judged k big s at h (rw (a, eq-eqb (next k (numbers_at big (layout k) s at)) 0 z))

-- A definition or a need whose auxiliary offset leads to the section's end or after it is none, whatever else is in it.
pub aux_past_definition : (big : Bool) (s : List ℕ) (at : ℕ) → at + size (layout Verdef) ≤ length s
    → length s ≤ at + the (fields Verdef) "vd_aux" (numbers_at big (layout Verdef) s at) → Bad ≡ onward_at_of Verdef big s at
unfolding aux_inside
aux_past_definition big s at h p = onward_past Verdef big s at h (sym (le-ltb _ (length s) p)) refl

pub aux_past_need : (big : Bool) (s : List ℕ) (at : ℕ) → at + size (layout Verneed) ≤ length s
    → length s ≤ at + the (fields Verneed) "vn_aux" (numbers_at big (layout Verneed) s at) → Bad ≡ onward_at_of Verneed big s at
unfolding aux_inside
aux_past_need big s at h p = onward_past Verneed big s at h (sym (le-ltb _ (length s) p)) refl

-- What is at a place in one order is what is there in the other, where the bytes of each field are reversed.
pub onward_mirrored : (k : VersionRecord) (big : Bool) (s t : List ℕ) (at : ℕ) → length t ≡ length s
    → (at + size (layout k) ≤ length s → Mirrored (layout k) s t at) → onward_at_of k (not big) t at ≡ onward_at_of k big s at
unfolding onward_at_of
onward_mirrored k big s t at l m =
    let n : 0 < size (layout k) = omega (arith, sized k) in
    rw l (read_mirrored (λ ns. pick (aux_inside k (length s) at ns) (onward_by (next k ns)) Bad) (λ end. Bad) big (layout k) s t at l n m)

-- Two answers that meet a promise of this crate are equal.
pub fields_of_unique : (k : VersionRecord) {r q : ℕ} → r ≡ fields_of k → q ≡ fields_of k → r ≡ q
fields_of_unique k = same

pub onward_at_unique : (k : VersionRecord) (big : Bool) (s : List ℕ) (at : ℕ) {r q : Onward} → r ≡ onward_at_of k big s at
    → q ≡ onward_at_of k big s at → r ≡ q
onward_at_unique k big s at = same

pub write_unique : (k : VersionRecord) (big : Bool) (s : List ℕ) (at : ℕ) (o : List ℕ) (base : ℕ) {r q : Result Unit Refusal} {l m : List ℕ}
    → (r ≡ write_of k s at o base) × (l ≡ write_out k big s at o base) → (q ≡ write_of k s at o base) × (m ≡ write_out k big s at o base)
    → (r ≡ q) × (l ≡ m)
write_unique k big s at o base = same_both
