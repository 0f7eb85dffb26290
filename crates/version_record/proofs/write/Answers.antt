-- `version_record::write` meets its contract. The invariant of its loop: as many numbers as were taken are in the list, the rest of which
-- is as it was, and the next field is at hand.
-- Assumes nothing.
use Rattle.std.proofs.Common.{◌≡◌, refl, sym, ◌∙◌, ℕ, ◌+◌, ◌≤◌, ◌<◌, List, length, get_or, add-one, arith, leb-true, leb-false}
use Rattle.std.proofs.Math.ListN.{length-set}
use Rattle.fields.proofs.Laws.{found, missed}
use Rattle.layout.specs.Layout.{numbers_at}
use Rattle.layout.proofs.Theorems.{length_numbers}
use Rattle.version_record.specs.Record.{layout}
use Rattle.version_record.proofs.Laws.{two_or_four, size_suc, field_inside, number_at_lem, put_start, put_next, write_short, write_full, write_done}
use Rattle.version_record.proofs.write.Goals as goal

pub returns-then-not-fits : goal.returns-then-not-fits
returns-then-not-fits c =
    let w = sym c.fits.ensures ∙ c.if-not-fits.true in
    let e = c.size_of-size.ensures in
    write_short _ _ _ _ _ _ (rw e at w) (rw e at c.cut.ensures)

pub returns-then-not-fits-2 : goal.returns-then-not-fits-2
returns-then-not-fits-2 c =
    let w = sym c.fits.ensures ∙ c.if-not-fits.false in
    let p : length c.args.out.now < c.args.base + length c.widths-widths.result.now = leb-false _ _
    (sym c.fits-2.ensures ∙ c.if-not-fits-2.true) in
    write_full _ _ _ _ _ _ (rw c.size_of-size.ensures at w) (rw c.widths-widths.ensures at p) c.into.ensures

pub loop-i-init : goal.loop-i-init
loop-i-init c =
    let p : c.args.base + length c.widths-widths.result.now ≤ length c.args.out.now = leb-true _ _
    (sym c.fits-2.ensures ∙ c.if-not-fits-2.false) in (
      omega arith,
      put_start c.args.out.now c.args.base
          (numbers_at c.args.big (layout c.args.kind) c.args.section.now c.args.at) (omega arith),
      refl,
    )

pub number-requires : goal.number-requires
number-requires c =
    rw c.widths-widths.ensures (two_or_four c.args.kind c.loop-i.i (rw c.widths-widths.ensures at c.loop-i-test.true))

pub returns-in_err-out : goal.returns-in_err-out
returns-in_err-out c =
    let w = sym c.fits.ensures ∙ c.if-not-fits.false in
    let f = field_inside c.args.kind c.args.section.now c.args.at c.loop-i.i (rw c.size_of-size.ensures at w)
    c.widths-widths.ensures c.loop-i-test.true in
    let m = missed c.args.big _ _ _ c.number.ensures c.in_err-out.was in
    absurd (omega (arith, f, m.past, c.loop-i.invariant.0))

pub overflow_add-next : goal.overflow_add-next
overflow_add-next c =
    let w = sym c.fits.ensures ∙ c.if-not-fits.false in
    let f = field_inside c.args.kind c.args.section.now c.args.at c.loop-i.i (rw c.size_of-size.ensures at w)
    c.widths-widths.ensures c.loop-i-test.true in
    omega (arith, f, c.loop-i.invariant.0)

pub loop-i-preserved : goal.loop-i-preserved
loop-i-preserved c =
    let p : c.args.base + length c.widths-widths.result.now ≤ length c.args.out.now = leb-true _ _
    (sym c.fits-2.ensures ∙ c.if-not-fits-2.false) in
    let m = c.widths-widths.ensures in
    let q : c.args.base + length (layout c.args.kind) ≤ length c.args.out.now = rw m at p in
    let b : c.loop-i.i < length (layout c.args.kind) = rw m at c.loop-i-test.true in
    let v = c.loop-i.invariant in
    let ns : List ℕ = numbers_at c.args.big (layout c.args.kind) c.args.section.now c.args.at in
    let l : length ns ≡ length (layout c.args.kind) = length_numbers c.args.big (layout c.args.kind) c.args.section.now c.args.at in
    let f = found c.args.big _ _ _ c.number.ensures c.in_ok-out.was in
    let e : c.in_ok-out.field-0 ≡ get_or ns c.loop-i.i 0 = f.value
    ∙ rw (m, v.0) (sym (number_at_lem c.args.big (layout c.args.kind) c.args.section.now c.args.at c.loop-i.i b)) in (
      rw (m, add-one, size_suc (layout c.args.kind) c.loop-i.i b) (omega arith),
      put_next _ _ ns _ _ _ v.1 v.2 (omega arith) (omega arith) e,
      simp length-set v.2,
    )

pub returns : goal.returns
returns c =
    let p : c.args.base + length c.widths-widths.result.now ≤ length c.args.out.now = leb-true _ _
    (sym c.fits-2.ensures ∙ c.if-not-fits-2.false) in
    let m = c.widths-widths.ensures in
    let w = sym c.fits.ensures ∙ c.if-not-fits.false in
    write_done _ _ _ _ _ _ c.loop-i.i (rw c.size_of-size.ensures at w) (rw m at p) (rw m at c.loop-i-test.false) c.loop-i.invariant.1
