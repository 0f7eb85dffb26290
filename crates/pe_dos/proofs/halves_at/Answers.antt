-- `pe_dos::halves_at` meets its contract: see its invariant.
-- Assumes nothing.
use Rattle.std.proofs.Common.{◌≡◌, refl, ap, ◌+◌, ◌*◌, ◌∙◌, [], false, Err, length-set, arith, rules}
use Rattle.layout.specs.Layout.{array, numbers_at}
use Rattle.layout.proofs.Laws.{run_cut, run_read, run_end, full_is}
use Rattle.cursor.specs.Next.{new_of}
use Rattle.cursor.proofs.Laws.{took, cut}
use Rattle.pe_dos.specs.Code.{halves_at}
use Rattle.pe_dos.proofs.halves_at.Goals as goal

pub loop-half-init : goal.loop-half-init
unfolding numbers_at
loop-half-init c = (omega arith, λ l. omega arith, refl, refl)

pub returns-in_err-number : goal.returns-in_err-number
unfolding halves_at
returns-in_err-number c =
    let v = c.loop-half.invariant in
    let i = c.loop-half.half-index in
    let m = cut false 2 _ c.next.ensures c.in_err-number.was in
    let e : c.loop-half.cursor.at ≡ c.args.from.at + i * 2 = omega arith in
    let k : c.from_residual.result ≡ Err c.in_err-number.field-0.0 = search rules in
    k
    ∙ rw (m.why, e) (run_cut false 2 i _ _ 29 [] _ _ (omega arith) (λ l. omega (arith, v.1 l)) (omega (arith, m.past)))

pub loop-half-preserved : goal.loop-half-preserved
loop-half-preserved c =
    let v = c.loop-half.invariant in
    let f = took false 2 _ c.next.ensures c.in_ok-number.was in (
      omega arith,
      λ l. omega arith,
      simp length-set v.2,
      run_read false 2 c.args.s.now c.args.from.at
          c.loop-half.half-items c.loop-half.half-index c.loop-half.cursor.at _ v.3 (omega arith) (omega arith) f.value,
    )

pub returns : goal.returns
unfolding halves_at
returns c =
    let v = c.loop-half.invariant in
    let i : c.loop-half.half-index ≡ 29 = omega arith in
    let r = run_end false 2 c.args.s.now c.args.from.at _ c.loop-half.half-index 29 i v.2 v.3 in
    let p : c.loop-half.cursor.at ≡ c.args.from.at + 58 = omega (arith, v.0, i) in
    let k : c.loop-half.cursor ≡ new_of (c.args.from.at + 58) = ap new_of p in
    full_is false _ _ _ (array 29 2 []) _ (omega (arith, v.1 (omega arith))) (rw (r, k) refl)
