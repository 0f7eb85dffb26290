-- `pe_mapping::first` meets its contract: a row that holds the address gives its offset, and one that does not leaves the search to the rest.
-- Assumes nothing.
use Rattle.std.proofs.Common.{◌≡◌, sym, ap, ◌∙◌, ◌+◌, ◌-◌, arith, rules, Err}
use Rattle.pe_section.proofs.Laws.{row_whole}
use Rattle.pe_mapping.specs.Mapping.{first_of}
use Rattle.pe_mapping.proofs.Laws.{readable_most, holds_told, first_none, first_cut, first_holds, first_on}
use Rattle.pe_mapping.proofs.first.Goals as goal

pub returns-in_err-h : goal.returns-in_err-h
returns-in_err-h c =
    let k : c.from_residual.result ≡ Err c.in_err-h.field-0.0 = search rules in
    k ∙ first_cut _ _ _ _ _ (omega arith) c.read.ensures c.in_err-h.was ∙ sym c.loop.invariant

pub overflow_sub-result : goal.overflow_sub-result
overflow_sub-result c = let t = holds_told _ _ _ (sym c.if-inside.ensures) in omega arith

pub overflow_add-result : goal.overflow_add-result
overflow_add-result c =
    let t = holds_told _ _ _ (sym c.if-inside.ensures) in
    let m = readable_most c.args.sections.alignment c.in_ok-h.h in
    omega (arith, m, t.below)

pub returns-then-inside : goal.returns-then-inside
returns-then-inside c =
    rw (c.from-start.ensures, c.from.ensures)
    (first_holds _ _ _ _ _ (omega arith) c.read.ensures c.in_ok-h.was c.if-inside.ensures ∙ sym c.loop.invariant)

pub overflow_add-at : goal.overflow_add-at
overflow_add-at c = let w = row_whole _ _ c.read.ensures c.in_ok-h.was in omega arith

pub loop-preserved : goal.loop-preserved
loop-preserved c =
    let x = c.args.sections in
    let e : x.count - c.loop.counter - 1 ≡ x.count - (c.loop.counter + 1) = omega arith in
    c.loop.invariant ∙ first_on _ _ _ _ _ (omega arith) c.read.ensures c.in_ok-h.was c.if-inside.ensures
    ∙ ap (λ n. first_of n c.args.file.now (c.loop.at + 40) x.alignment c.args.address) e

pub returns : goal.returns
returns c = first_none _ _ _ _ _ (omega arith) c.into.ensures ∙ sym c.loop.invariant
