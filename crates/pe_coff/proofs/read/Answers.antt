-- `pe_coff::read` meets its contract: each field is taken where the one before it ends; a field that is missing refuses as the
-- layout does, and the section count is judged before the fields after it.
-- Assumes nothing.
use Rattle.std.proofs.Common.{◌≡◌, refl, ◌+◌, false, Err, arith, rules}
use Rattle.fields.specs.Number.{number_at}
use Rattle.layout.specs.Layout.{numbers_at}
use Rattle.cursor.proofs.Laws.{new_at, took, cut}
use Rattle.layout.proofs.Laws.{missed_by, full_is}
use Rattle.pe_coff.specs.Coff.{read_of}
use Rattle.pe_coff.proofs.Laws.{early, late, coff_many, coff_rest}
use Rattle.pe_coff.proofs.read.Goals as goal

pub returns-in_err-machine : goal.returns-in_err-machine
unfolding read_of
returns-in_err-machine c =
    let z = new_at c.new-cursor.ensures in
    let m = cut false 2 _ c.next.ensures c.in_err-machine.was in
    let k : c.from_residual.result ≡ Err c.in_err-machine.field-0.0 = search rules in
    missed_by false early 0 (omega arith) _ Err _ _ _ m (omega arith) (λ i. omega arith) k

pub returns-in_err-number_of_sections : goal.returns-in_err-number_of_sections
unfolding read_of
returns-in_err-number_of_sections c =
    let z = new_at c.new-cursor.ensures in
    let f0 = took false 2 _ c.next.ensures c.in_ok-machine.was in
    let m = cut false 2 _ c.next-2.ensures c.in_err-number_of_sections.was in
    let k : c.from_residual-in_err-number_of_sections.result ≡ Err c.in_err-number_of_sections.field-0.0 = search rules in
    missed_by false early 1 (omega arith) _ Err _ _ _ m (omega arith) (λ i. omega arith) k

pub returns-then-count-gt-LIMIT : goal.returns-then-count-gt-LIMIT
returns-then-count-gt-LIMIT c =
    let z = new_at c.new-cursor.ensures in
    let f0 = took false 2 _ c.next.ensures c.in_ok-machine.was in
    let f1 = took false 2 _ c.next-2.ensures c.in_ok-number_of_sections.was in
    let e : c.in_ok-number_of_sections.number_of_sections ≡ number_at false 2 c.args.s.now (c.args.at + 2) = rw (f1.value, f0.past, z) refl in
    coff_many _ _ (omega arith) e c.if-count-gt-LIMIT.true c.into.ensures

pub returns-in_err-time_date_stamp : goal.returns-in_err-time_date_stamp
returns-in_err-time_date_stamp c =
    let z = new_at c.new-cursor.ensures in
    let f0 = took false 2 _ c.next.ensures c.in_ok-machine.was in
    let f1 = took false 2 _ c.next-2.ensures c.in_ok-number_of_sections.was in
    let e : c.in_ok-number_of_sections.number_of_sections ≡ number_at false 2 c.args.s.now (c.args.at + 2) = rw (f1.value, f0.past, z) refl in
    let m = cut false 4 _ c.next-3.ensures c.in_err-time_date_stamp.was in
    let k : c.from_residual-in_err-time_date_stamp.result ≡ Err c.in_err-time_date_stamp.field-0.0 = search rules in
    coff_rest _ _ (omega arith) e c.if-count-gt-LIMIT.false
    (missed_by false late 0 (omega arith) _ Err _ _ _ m (omega arith) (λ i. omega arith) k)

pub returns-in_err-pointer_to_symbol_table : goal.returns-in_err-pointer_to_symbol_table
returns-in_err-pointer_to_symbol_table c =
    let z = new_at c.new-cursor.ensures in
    let f0 = took false 2 _ c.next.ensures c.in_ok-machine.was in
    let f1 = took false 2 _ c.next-2.ensures c.in_ok-number_of_sections.was in
    let f2 = took false 4 _ c.next-3.ensures c.in_ok-time_date_stamp.was in
    let e : c.in_ok-number_of_sections.number_of_sections ≡ number_at false 2 c.args.s.now (c.args.at + 2) = rw (f1.value, f0.past, z) refl in
    let m = cut false 4 _ c.next-4.ensures c.in_err-pointer_to_symbol_table.was in
    let k : c.from_residual-in_err-pointer_to_symbol_table.result ≡ Err c.in_err-pointer_to_symbol_table.field-0.0 = search rules in
    coff_rest _ _ (omega arith) e c.if-count-gt-LIMIT.false
    (missed_by false late 1 (omega arith) _ Err _ _ _ m (omega arith) (λ i. omega arith) k)

pub returns-in_err-number_of_symbols : goal.returns-in_err-number_of_symbols
returns-in_err-number_of_symbols c =
    let z = new_at c.new-cursor.ensures in
    let f0 = took false 2 _ c.next.ensures c.in_ok-machine.was in
    let f1 = took false 2 _ c.next-2.ensures c.in_ok-number_of_sections.was in
    let f2 = took false 4 _ c.next-3.ensures c.in_ok-time_date_stamp.was in
    let f3 = took false 4 _ c.next-4.ensures c.in_ok-pointer_to_symbol_table.was in
    let e : c.in_ok-number_of_sections.number_of_sections ≡ number_at false 2 c.args.s.now (c.args.at + 2) = rw (f1.value, f0.past, z) refl in
    let m = cut false 4 _ c.next-5.ensures c.in_err-number_of_symbols.was in
    let k : c.from_residual-in_err-number_of_symbols.result ≡ Err c.in_err-number_of_symbols.field-0.0 = search rules in
    coff_rest _ _ (omega arith) e c.if-count-gt-LIMIT.false
    (missed_by false late 2 (omega arith) _ Err _ _ _ m (omega arith) (λ i. omega arith) k)

pub returns-in_err-size_of_optional_header : goal.returns-in_err-size_of_optional_header
returns-in_err-size_of_optional_header c =
    let z = new_at c.new-cursor.ensures in
    let f0 = took false 2 _ c.next.ensures c.in_ok-machine.was in
    let f1 = took false 2 _ c.next-2.ensures c.in_ok-number_of_sections.was in
    let f2 = took false 4 _ c.next-3.ensures c.in_ok-time_date_stamp.was in
    let f3 = took false 4 _ c.next-4.ensures c.in_ok-pointer_to_symbol_table.was in
    let f4 = took false 4 _ c.next-5.ensures c.in_ok-number_of_symbols.was in
    let e : c.in_ok-number_of_sections.number_of_sections ≡ number_at false 2 c.args.s.now (c.args.at + 2) = rw (f1.value, f0.past, z) refl in
    let m = cut false 2 _ c.next-6.ensures c.in_err-size_of_optional_header.was in
    let k : c.from_residual-in_err-size_of_optional_header.result ≡ Err c.in_err-size_of_optional_header.field-0.0 = search rules in
    coff_rest _ _ (omega arith) e c.if-count-gt-LIMIT.false
    (missed_by false late 3 (omega arith) _ Err _ _ _ m (omega arith) (λ i. omega arith) k)

pub returns-in_err-characteristics : goal.returns-in_err-characteristics
returns-in_err-characteristics c =
    let z = new_at c.new-cursor.ensures in
    let f0 = took false 2 _ c.next.ensures c.in_ok-machine.was in
    let f1 = took false 2 _ c.next-2.ensures c.in_ok-number_of_sections.was in
    let f2 = took false 4 _ c.next-3.ensures c.in_ok-time_date_stamp.was in
    let f3 = took false 4 _ c.next-4.ensures c.in_ok-pointer_to_symbol_table.was in
    let f4 = took false 4 _ c.next-5.ensures c.in_ok-number_of_symbols.was in
    let f5 = took false 2 _ c.next-6.ensures c.in_ok-size_of_optional_header.was in
    let e : c.in_ok-number_of_sections.number_of_sections ≡ number_at false 2 c.args.s.now (c.args.at + 2) = rw (f1.value, f0.past, z) refl in
    let m = cut false 2 _ c.next-7.ensures c.in_err-characteristics.was in
    let k : c.from_residual-in_err-characteristics.result ≡ Err c.in_err-characteristics.field-0.0 = search rules in
    coff_rest _ _ (omega arith) e c.if-count-gt-LIMIT.false
    (missed_by false late 4 (omega arith) _ Err _ _ _ m (omega arith) (λ i. omega arith) k)

pub returns : goal.returns
unfolding numbers_at
returns c =
    let z = new_at c.new-cursor.ensures in
    let f0 = took false 2 _ c.next.ensures c.in_ok-machine.was in
    let f1 = took false 2 _ c.next-2.ensures c.in_ok-number_of_sections.was in
    let f2 = took false 4 _ c.next-3.ensures c.in_ok-time_date_stamp.was in
    let f3 = took false 4 _ c.next-4.ensures c.in_ok-pointer_to_symbol_table.was in
    let f4 = took false 4 _ c.next-5.ensures c.in_ok-number_of_symbols.was in
    let f5 = took false 2 _ c.next-6.ensures c.in_ok-size_of_optional_header.was in
    let f6 = took false 2 _ c.next-7.ensures c.in_ok-characteristics.was in
    let e : c.in_ok-number_of_sections.number_of_sections ≡ number_at false 2 c.args.s.now (c.args.at + 2) = rw (f1.value, f0.past, z) refl in
    let p : c.in_ok-number_of_sections.cursor.at ≡ c.args.at + 4 = omega arith in
    coff_rest _ _ (omega arith) e c.if-count-gt-LIMIT.false
    (full_is false _ _ _ late _ (omega arith)
    (rw (f0.value, f1.value, f2.value, f3.value, f4.value, f5.value)
    (rw (f6.value, f5.past, f4.past, f3.past, f2.past, p) (rw (f0.past, z) refl))))
