-- `version_list::fill` meets its contract. The invariant of its loop: the rows that are left, written from the base on, make of the list
-- what it shall be in the end.
-- Assumes nothing.
use Rattle.std.proofs.Common.{◌≡◌, refl, ◌∙◌, ℕ, suc, ◌+◌, ◌-◌, ◌<◌, length, arith}
use Rattle.version_record.specs.Record.{layout}
use Rattle.version_list.proofs.Laws.{more, first_of_lem, rest_put, all_put}
use Rattle.version_list.proofs.fill.Goals as goal

pub loop-init : goal.loop-init
loop-init c =
    let z : c.args.entries - 0 ≡ c.args.entries = omega arith in
    (rw z (omega (arith, c.requires.2)), rw z c.requires.1, rw z refl, refl)

pub put_row-requires : goal.put_row-requires
put_row-requires c =
    let n : ℕ = c.args.entries - c.loop.counter in
    let h : 0 < n = omega arith in
    let f = first_of_lem c.args.kind c.args.big c.args.section.now n c.loop.place h c.loop.invariant.1 in
    let m = more n (suc (length (layout c.args.kind))) h in
    (c.requires.0, f.there, omega (arith, c.loop.invariant.0))

pub loop-preserved : goal.loop-preserved
loop-preserved c =
    let n : ℕ = c.args.entries - c.loop.counter in
    let h : 0 < n = omega arith in
    let d : n - 1 ≡ c.args.entries - (c.loop.counter + 1) = omega arith in
    let f = first_of_lem c.args.kind c.args.big c.args.section.now n c.loop.place h c.loop.invariant.1 in
    let m = more n (suc (length (layout c.args.kind))) h in
    let r = rest_put c.args.kind c.args.big c.args.section.now n c.loop.place _ c.loop.out _ c.loop.base f c.loop.invariant.2
    c.put_row.ensures.1 c.loop.invariant.0 h in
    let e : c.fields_of-columns.result + 1 ≡ suc (length (layout c.args.kind)) = omega (arith, c.fields_of-columns.ensures) in (
      rw (← d, e) (omega (arith, r.1, c.loop.invariant.0)),
      rw (← d, c.place_after-place.ensures) f.rest,
      rw (← d, e, c.place_after-place.ensures) r.0,
      r.1 ∙ c.loop.invariant.3,
    )

pub returns : goal.returns
returns c = (
  refl,
  all_put c.args.kind c.args.big c.args.section.now (c.args.entries - c.loop.counter) c.loop.place _ _ c.loop.base (omega arith)
      (omega (arith, c.loop.invariant.0)) c.loop.invariant.2,
)
