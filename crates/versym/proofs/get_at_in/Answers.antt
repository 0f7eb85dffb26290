-- `versym::get_at_in` meets its contract: below the number of entries, the field that was taken is the entry.
-- Assumes nothing.
use Rattle.std.proofs.Common.{◌≡◌, refl, Err, arith, rules}
use borrow.Author.Tests.{lt-ltb, le-ltb}
use Rattle.answer.proofs.Laws.{must_on, must_off}
use Rattle.fields.proofs.Laws.{found, missed}
use Rattle.layout.specs.Layout.{numbers_at}
use Rattle.layout.proofs.Laws.{missed_by, full_is}
use Rattle.versym.specs.Versym.{entry, get_at_in_of}
use Rattle.versym.proofs.get_at_in.Goals as goal

pub returns-in_err-value : goal.returns-in_err-value
unfolding get_at_in_of
returns-in_err-value c =
    let k : c.from_residual.result ≡ Err c.in_err-value.field-0.0 = search rules in
    let m = missed c.args.big 2 _ _ c.read.ensures c.in_err-value.was in
    must_on _ _ _ _ (lt-ltb _ _ c.if-index-section.true) (missed_by _ entry 0 (omega arith) _ Err _ _ _ m (omega arith) (λ i. omega arith) k)

pub returns-then-index-section : goal.returns-then-index-section
unfolding get_at_in_of numbers_at
returns-then-index-section c =
    let f = found c.args.big 2 _ _ c.read.ensures c.in_ok-value.was in
    must_on _ _ _ _ (lt-ltb _ _ c.if-index-section.true)
    (full_is _ _ _ _ entry _ (omega (arith, f.inside)) (rw (c.versym_of.ensures, f.value) refl))

pub returns : goal.returns
unfolding get_at_in_of
returns c = must_off _ _ _ _ (le-ltb _ _ c.if-index-section.false) c.into.ensures
