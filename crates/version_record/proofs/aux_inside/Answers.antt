-- `version_record::aux_inside` meets its contract: the auxiliary offset is the sixth field of a definition and the fourth of a need.
-- Assumes nothing.
use Rattle.std.proofs.Common.{◌≡◌, refl, ◌⊎◌, inl, inr, ℕ, List, true}
use Rattle.version_record.specs.Record.{aux_inside}
use Rattle.version_record.specs.declared.VersionRecord.{VersionRecord}
use Rattle.version_record.specs.declared.VersionRecord.TheVariants.{Verdaux, Vernaux}
use Rattle.version_record.proofs.Laws.{aux_of_definition, aux_of_need}
use Rattle.version_record.proofs.aux_inside.Goals as goal

-- an auxiliary has none itself
none : {k : VersionRecord} (len at : ℕ) (ns : List ℕ) → (k ≡ Verdaux) ⊎ (k ≡ Vernaux) → true ≡ aux_inside k len at ns
unfolding aux_inside
none len at ns (inl e) = rw e refl
none len at ns (inr e) = rw e refl

pub returns-in-Verdef : goal.returns-in-Verdef
unfolding aux_inside
returns-in-Verdef c = rw (c.inside.ensures, c.in-Verdef.is, aux_of_definition)

pub returns-in-Verneed : goal.returns-in-Verneed
unfolding aux_inside
returns-in-Verneed c = rw (c.inside-in-Verneed.ensures, c.in-Verneed.is, aux_of_need)

pub returns-in-Verdaux : goal.returns-in-Verdaux
unfolding aux_inside
returns-in-Verdaux c = none _ _ _ c.in-Verdaux.is
