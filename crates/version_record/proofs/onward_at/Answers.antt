-- `version_record::onward_at` meets its contract: each return is one of the ways in which what is at a place comes about.
-- Assumes nothing.
use Rattle.std.proofs.Common.{sym, ◌∙◌, arith}
use Rattle.fields.proofs.Laws.{found, missed}
use Rattle.version_record.proofs.Laws.{sized, whole_is, missing_is, onward_missing, onward_past, onward_last, onward_next}
use Rattle.version_record.proofs.onward_at.Goals as goal
use Rattle.version_record.proofs.onward_at.Goals.{then-not-fits-via-then-not-fits, then-not-fits-via-else-not-fits+then-not-aux_inside}

pub returns-then-not-fits : goal.returns-then-not-fits
returns-then-not-fits c =
    let a = c.args in
    elim c.then-not-fits.branch [
      | then-not-fits-via-then-not-fits w ↦
          onward_missing _ _ _ _ (missing_is a.kind a.section.now a.at _ c.size_of-size.ensures (sym c.fits.ensures ∙ w.if-not-fits.true))
      | then-not-fits-via-else-not-fits+then-not-aux_inside w ↦
          let h = whole_is a.kind a.section.now a.at _ c.size_of-size.ensures (sym c.fits.ensures ∙ w.if-not-fits.false) in
          onward_past _ _ _ _ h w.aux_inside.ensures w.if-not-aux_inside.true
    ]

pub returns-in-Ok-eq0 : goal.returns-in-Ok-eq0
returns-in-Ok-eq0 c =
    let a = c.args in
    let h = whole_is a.kind a.section.now a.at _ c.size_of-size.ensures (sym c.fits.ensures ∙ c.if-not-fits.false) in
    let f = found a.big 4 _ _ c.read.ensures c.in-Ok-eq0.is in
    onward_last _ _ _ _ h c.aux_inside.ensures c.if-not-aux_inside.false (f.value ∙ rw c.size_of-size.ensures) c.in-Ok-eq0.field-0-test

pub returns-in-Ok : goal.returns-in-Ok
returns-in-Ok c =
    let a = c.args in
    let h = whole_is a.kind a.section.now a.at _ c.size_of-size.ensures (sym c.fits.ensures ∙ c.if-not-fits.false) in
    let f = found a.big 4 _ _ c.read.ensures c.in-Ok.is in
    onward_next _ _ _ _ h c.aux_inside.ensures c.if-not-aux_inside.false (f.value ∙ rw c.size_of-size.ensures) c.in-Ok.next-test.1

pub returns-in-Err : goal.returns-in-Err
returns-in-Err c =
    let a = c.args in
    let h = whole_is a.kind a.section.now a.at _ c.size_of-size.ensures (sym c.fits.ensures ∙ c.if-not-fits.false) in
    let m = missed a.big 4 _ _ c.read.ensures c.in-Err.is in
    absurd (omega (arith, m.past, c.size_of-size.ensures, sized a.kind))
