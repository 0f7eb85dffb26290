-- `runtime_function::read` meets its contract: each field is taken where the one before it ends, and a field that is missing refuses as the
-- layout does.
-- Assumes nothing.
use Rattle.std.proofs.Common.{◌≡◌, refl, false, Err, arith, rules}
use Rattle.layout.specs.Layout.{numbers_at}
use Rattle.cursor.proofs.Laws.{new_at, took, cut}
use Rattle.layout.proofs.Laws.{missed_by, full_is}
use Rattle.runtime_function.specs.RuntimeFunction.{runtime_function, read_of}
use Rattle.runtime_function.proofs.read.Goals as goal

pub returns-in_err-begin : goal.returns-in_err-begin
unfolding read_of
returns-in_err-begin c =
    let z = new_at c.new-cursor.ensures in
    let m = cut false 4 _ c.next.ensures c.in_err-begin.was in
    let k : c.from_residual.result ≡ Err c.in_err-begin.field-0.0 = search rules in
    missed_by false runtime_function 0 (omega arith) _ Err _ _ _ m (omega arith) (λ i. omega arith) k

pub returns-in_err-end : goal.returns-in_err-end
unfolding read_of
returns-in_err-end c =
    let z = new_at c.new-cursor.ensures in
    let f0 = took false 4 _ c.next.ensures c.in_ok-begin.was in
    let m = cut false 4 _ c.next-2.ensures c.in_err-end.was in
    let k : c.from_residual-in_err-end.result ≡ Err c.in_err-end.field-0.0 = search rules in
    missed_by false runtime_function 1 (omega arith) _ Err _ _ _ m (omega arith) (λ i. omega arith) k

pub returns-in_err-unwind : goal.returns-in_err-unwind
unfolding read_of
returns-in_err-unwind c =
    let z = new_at c.new-cursor.ensures in
    let f0 = took false 4 _ c.next.ensures c.in_ok-begin.was in
    let f1 = took false 4 _ c.next-2.ensures c.in_ok-end.was in
    let m = cut false 4 _ c.next-3.ensures c.in_err-unwind.was in
    let k : c.from_residual-in_err-unwind.result ≡ Err c.in_err-unwind.field-0.0 = search rules in
    missed_by false runtime_function 2 (omega arith) _ Err _ _ _ m (omega arith) (λ i. omega arith) k

pub returns : goal.returns
unfolding read_of numbers_at
returns c =
    let z = new_at c.new-cursor.ensures in
    let f0 = took false 4 _ c.next.ensures c.in_ok-begin.was in
    let f1 = took false 4 _ c.next-2.ensures c.in_ok-end.was in
    let f2 = took false 4 _ c.next-3.ensures c.in_ok-unwind.was in
    full_is false _ _ _ runtime_function _ (omega arith) (rw (f0.value, f1.value, f2.value, f1.past, f0.past, z) refl)
