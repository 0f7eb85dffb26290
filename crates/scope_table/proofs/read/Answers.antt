-- `scope_table::read` meets its contract: each field is taken where the one before it ends, and a field that is missing refuses as the
-- layout does.
-- Assumes nothing.
use Rattle.std.proofs.Common.{◌≡◌, refl, false, Err, arith, rules}
use Rattle.layout.specs.Layout.{numbers_at}
use Rattle.cursor.proofs.Laws.{new_at, took, cut}
use Rattle.layout.proofs.Laws.{missed_by, full_is}
use Rattle.scope_table.specs.Scope.{scope_table_entry, read_of}
use Rattle.scope_table.proofs.read.Goals as goal

pub returns-in_err-begin : goal.returns-in_err-begin
unfolding read_of
returns-in_err-begin c =
    let z = new_at c.new-cursor.ensures in
    let m = cut false 4 _ c.next.ensures c.in_err-begin.was in
    let k : c.from_residual.result ≡ Err c.in_err-begin.field-0.0 = search rules in
    missed_by false scope_table_entry 0 (omega arith) _ Err _ _ _ m (omega arith) (λ i. omega arith) k

pub returns-in_err-end : goal.returns-in_err-end
unfolding read_of
returns-in_err-end c =
    let z = new_at c.new-cursor.ensures in
    let f0 = took false 4 _ c.next.ensures c.in_ok-begin.was in
    let m = cut false 4 _ c.next-2.ensures c.in_err-end.was in
    let k : c.from_residual-in_err-end.result ≡ Err c.in_err-end.field-0.0 = search rules in
    missed_by false scope_table_entry 1 (omega arith) _ Err _ _ _ m (omega arith) (λ i. omega arith) k

pub returns-in_err-handler : goal.returns-in_err-handler
unfolding read_of
returns-in_err-handler c =
    let z = new_at c.new-cursor.ensures in
    let f0 = took false 4 _ c.next.ensures c.in_ok-begin.was in
    let f1 = took false 4 _ c.next-2.ensures c.in_ok-end.was in
    let m = cut false 4 _ c.next-3.ensures c.in_err-handler.was in
    let k : c.from_residual-in_err-handler.result ≡ Err c.in_err-handler.field-0.0 = search rules in
    missed_by false scope_table_entry 2 (omega arith) _ Err _ _ _ m (omega arith) (λ i. omega arith) k

pub returns-in_err-target : goal.returns-in_err-target
unfolding read_of
returns-in_err-target c =
    let z = new_at c.new-cursor.ensures in
    let f0 = took false 4 _ c.next.ensures c.in_ok-begin.was in
    let f1 = took false 4 _ c.next-2.ensures c.in_ok-end.was in
    let f2 = took false 4 _ c.next-3.ensures c.in_ok-handler.was in
    let m = cut false 4 _ c.next-4.ensures c.in_err-target.was in
    let k : c.from_residual-in_err-target.result ≡ Err c.in_err-target.field-0.0 = search rules in
    missed_by false scope_table_entry 3 (omega arith) _ Err _ _ _ m (omega arith) (λ i. omega arith) k

pub returns : goal.returns
unfolding read_of numbers_at
returns c =
    let z = new_at c.new-cursor.ensures in
    let f0 = took false 4 _ c.next.ensures c.in_ok-begin.was in
    let f1 = took false 4 _ c.next-2.ensures c.in_ok-end.was in
    let f2 = took false 4 _ c.next-3.ensures c.in_ok-handler.was in
    let f3 = took false 4 _ c.next-4.ensures c.in_ok-target.was in
    full_is false _ _ _ scope_table_entry _ (omega arith) (rw (f0.value, f1.value, f2.value, f3.value, f2.past, f1.past, f0.past, z) refl)
