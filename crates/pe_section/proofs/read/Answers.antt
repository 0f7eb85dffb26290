-- `pe_section::read` meets its contract: each field is taken where the one before it ends, and a field that is missing refuses as the
-- layout does.
-- Assumes nothing.
use Rattle.std.proofs.Common.{◌≡◌, refl, false, Err, arith, rules}
use Rattle.layout.specs.Layout.{numbers_at}
use Rattle.cursor.proofs.Laws.{new_at, took, cut}
use Rattle.layout.proofs.Laws.{missed_by, full_is}
use Rattle.pe_section.specs.Section.{section_table_of, read_of}
use Rattle.pe_section.proofs.read.Goals as goal

pub returns-in_err-name : goal.returns-in_err-name
unfolding read_of
returns-in_err-name c =
    let z = new_at c.new-cursor.ensures in
    let m = cut false 8 _ c.next.ensures c.in_err-name.was in
    let k : c.from_residual.result ≡ Err c.in_err-name.field-0.0 = search rules in
    missed_by false section_table_of 0 (omega arith) _ Err _ _ _ m (omega arith) (λ i. omega arith) k

pub returns-in_err-virtual_size : goal.returns-in_err-virtual_size
unfolding read_of
returns-in_err-virtual_size c =
    let z = new_at c.new-cursor.ensures in
    let f0 = took false 8 _ c.next.ensures c.in_ok-name.was in
    let m = cut false 4 _ c.next-2.ensures c.in_err-virtual_size.was in
    let k : c.from_residual-in_err-virtual_size.result ≡ Err c.in_err-virtual_size.field-0.0 = search rules in
    missed_by false section_table_of 1 (omega arith) _ Err _ _ _ m (omega arith) (λ i. omega arith) k

pub returns-in_err-virtual_address : goal.returns-in_err-virtual_address
unfolding read_of
returns-in_err-virtual_address c =
    let z = new_at c.new-cursor.ensures in
    let f0 = took false 8 _ c.next.ensures c.in_ok-name.was in
    let f1 = took false 4 _ c.next-2.ensures c.in_ok-virtual_size.was in
    let m = cut false 4 _ c.next-3.ensures c.in_err-virtual_address.was in
    let k : c.from_residual-in_err-virtual_address.result ≡ Err c.in_err-virtual_address.field-0.0 = search rules in
    missed_by false section_table_of 2 (omega arith) _ Err _ _ _ m (omega arith) (λ i. omega arith) k

pub returns-in_err-size_of_raw_data : goal.returns-in_err-size_of_raw_data
unfolding read_of
returns-in_err-size_of_raw_data c =
    let z = new_at c.new-cursor.ensures in
    let f0 = took false 8 _ c.next.ensures c.in_ok-name.was in
    let f1 = took false 4 _ c.next-2.ensures c.in_ok-virtual_size.was in
    let f2 = took false 4 _ c.next-3.ensures c.in_ok-virtual_address.was in
    let m = cut false 4 _ c.next-4.ensures c.in_err-size_of_raw_data.was in
    let k : c.from_residual-in_err-size_of_raw_data.result ≡ Err c.in_err-size_of_raw_data.field-0.0 = search rules in
    missed_by false section_table_of 3 (omega arith) _ Err _ _ _ m (omega arith) (λ i. omega arith) k

pub returns-in_err-pointer_to_raw_data : goal.returns-in_err-pointer_to_raw_data
unfolding read_of
returns-in_err-pointer_to_raw_data c =
    let z = new_at c.new-cursor.ensures in
    let f0 = took false 8 _ c.next.ensures c.in_ok-name.was in
    let f1 = took false 4 _ c.next-2.ensures c.in_ok-virtual_size.was in
    let f2 = took false 4 _ c.next-3.ensures c.in_ok-virtual_address.was in
    let f3 = took false 4 _ c.next-4.ensures c.in_ok-size_of_raw_data.was in
    let m = cut false 4 _ c.next-5.ensures c.in_err-pointer_to_raw_data.was in
    let k : c.from_residual-in_err-pointer_to_raw_data.result ≡ Err c.in_err-pointer_to_raw_data.field-0.0 = search rules in
    missed_by false section_table_of 4 (omega arith) _ Err _ _ _ m (omega arith) (λ i. omega arith) k

pub returns-in_err-pointer_to_relocations : goal.returns-in_err-pointer_to_relocations
unfolding read_of
returns-in_err-pointer_to_relocations c =
    let z = new_at c.new-cursor.ensures in
    let f0 = took false 8 _ c.next.ensures c.in_ok-name.was in
    let f1 = took false 4 _ c.next-2.ensures c.in_ok-virtual_size.was in
    let f2 = took false 4 _ c.next-3.ensures c.in_ok-virtual_address.was in
    let f3 = took false 4 _ c.next-4.ensures c.in_ok-size_of_raw_data.was in
    let f4 = took false 4 _ c.next-5.ensures c.in_ok-pointer_to_raw_data.was in
    let m = cut false 4 _ c.next-6.ensures c.in_err-pointer_to_relocations.was in
    let k : c.from_residual-in_err-pointer_to_relocations.result ≡ Err c.in_err-pointer_to_relocations.field-0.0 = search rules in
    missed_by false section_table_of 5 (omega arith) _ Err _ _ _ m (omega arith) (λ i. omega arith) k

pub returns-in_err-pointer_to_linenumbers : goal.returns-in_err-pointer_to_linenumbers
unfolding read_of
returns-in_err-pointer_to_linenumbers c =
    let z = new_at c.new-cursor.ensures in
    let f0 = took false 8 _ c.next.ensures c.in_ok-name.was in
    let f1 = took false 4 _ c.next-2.ensures c.in_ok-virtual_size.was in
    let f2 = took false 4 _ c.next-3.ensures c.in_ok-virtual_address.was in
    let f3 = took false 4 _ c.next-4.ensures c.in_ok-size_of_raw_data.was in
    let f4 = took false 4 _ c.next-5.ensures c.in_ok-pointer_to_raw_data.was in
    let f5 = took false 4 _ c.next-6.ensures c.in_ok-pointer_to_relocations.was in
    let m = cut false 4 _ c.next-7.ensures c.in_err-pointer_to_linenumbers.was in
    let k : c.from_residual-in_err-pointer_to_linenumbers.result ≡ Err c.in_err-pointer_to_linenumbers.field-0.0 = search rules in
    missed_by false section_table_of 6 (omega arith) _ Err _ _ _ m (omega arith) (λ i. omega arith) k

pub returns-in_err-number_of_relocations : goal.returns-in_err-number_of_relocations
unfolding read_of
returns-in_err-number_of_relocations c =
    let z = new_at c.new-cursor.ensures in
    let f0 = took false 8 _ c.next.ensures c.in_ok-name.was in
    let f1 = took false 4 _ c.next-2.ensures c.in_ok-virtual_size.was in
    let f2 = took false 4 _ c.next-3.ensures c.in_ok-virtual_address.was in
    let f3 = took false 4 _ c.next-4.ensures c.in_ok-size_of_raw_data.was in
    let f4 = took false 4 _ c.next-5.ensures c.in_ok-pointer_to_raw_data.was in
    let f5 = took false 4 _ c.next-6.ensures c.in_ok-pointer_to_relocations.was in
    let f6 = took false 4 _ c.next-7.ensures c.in_ok-pointer_to_linenumbers.was in
    let m = cut false 2 _ c.next-8.ensures c.in_err-number_of_relocations.was in
    let k : c.from_residual-in_err-number_of_relocations.result ≡ Err c.in_err-number_of_relocations.field-0.0 = search rules in
    missed_by false section_table_of 7 (omega arith) _ Err _ _ _ m (omega arith) (λ i. omega arith) k

pub returns-in_err-number_of_linenumbers : goal.returns-in_err-number_of_linenumbers
unfolding read_of
returns-in_err-number_of_linenumbers c =
    let z = new_at c.new-cursor.ensures in
    let f0 = took false 8 _ c.next.ensures c.in_ok-name.was in
    let f1 = took false 4 _ c.next-2.ensures c.in_ok-virtual_size.was in
    let f2 = took false 4 _ c.next-3.ensures c.in_ok-virtual_address.was in
    let f3 = took false 4 _ c.next-4.ensures c.in_ok-size_of_raw_data.was in
    let f4 = took false 4 _ c.next-5.ensures c.in_ok-pointer_to_raw_data.was in
    let f5 = took false 4 _ c.next-6.ensures c.in_ok-pointer_to_relocations.was in
    let f6 = took false 4 _ c.next-7.ensures c.in_ok-pointer_to_linenumbers.was in
    let f7 = took false 2 _ c.next-8.ensures c.in_ok-number_of_relocations.was in
    let m = cut false 2 _ c.next-9.ensures c.in_err-number_of_linenumbers.was in
    let k : c.from_residual-in_err-number_of_linenumbers.result ≡ Err c.in_err-number_of_linenumbers.field-0.0 = search rules in
    missed_by false section_table_of 8 (omega arith) _ Err _ _ _ m (omega arith) (λ i. omega arith) k

pub returns-in_err-characteristics : goal.returns-in_err-characteristics
unfolding read_of
returns-in_err-characteristics c =
    let z = new_at c.new-cursor.ensures in
    let f0 = took false 8 _ c.next.ensures c.in_ok-name.was in
    let f1 = took false 4 _ c.next-2.ensures c.in_ok-virtual_size.was in
    let f2 = took false 4 _ c.next-3.ensures c.in_ok-virtual_address.was in
    let f3 = took false 4 _ c.next-4.ensures c.in_ok-size_of_raw_data.was in
    let f4 = took false 4 _ c.next-5.ensures c.in_ok-pointer_to_raw_data.was in
    let f5 = took false 4 _ c.next-6.ensures c.in_ok-pointer_to_relocations.was in
    let f6 = took false 4 _ c.next-7.ensures c.in_ok-pointer_to_linenumbers.was in
    let f7 = took false 2 _ c.next-8.ensures c.in_ok-number_of_relocations.was in
    let f8 = took false 2 _ c.next-9.ensures c.in_ok-number_of_linenumbers.was in
    let m = cut false 4 _ c.next-10.ensures c.in_err-characteristics.was in
    let k : c.from_residual-in_err-characteristics.result ≡ Err c.in_err-characteristics.field-0.0 = search rules in
    missed_by false section_table_of 9 (omega arith) _ Err _ _ _ m (omega arith) (λ i. omega arith) k

pub returns : goal.returns
unfolding read_of numbers_at
returns c =
    let z = new_at c.new-cursor.ensures in
    let f0 = took false 8 _ c.next.ensures c.in_ok-name.was in
    let f1 = took false 4 _ c.next-2.ensures c.in_ok-virtual_size.was in
    let f2 = took false 4 _ c.next-3.ensures c.in_ok-virtual_address.was in
    let f3 = took false 4 _ c.next-4.ensures c.in_ok-size_of_raw_data.was in
    let f4 = took false 4 _ c.next-5.ensures c.in_ok-pointer_to_raw_data.was in
    let f5 = took false 4 _ c.next-6.ensures c.in_ok-pointer_to_relocations.was in
    let f6 = took false 4 _ c.next-7.ensures c.in_ok-pointer_to_linenumbers.was in
    let f7 = took false 2 _ c.next-8.ensures c.in_ok-number_of_relocations.was in
    let f8 = took false 2 _ c.next-9.ensures c.in_ok-number_of_linenumbers.was in
    let f9 = took false 4 _ c.next-10.ensures c.in_ok-characteristics.was in
    full_is false _ _ _ section_table_of _ (omega arith)
    (rw (f0.value, f1.value, f2.value, f3.value, f4.value, f5.value, f6.value, f7.value, f8.value, f9.value)
    (rw (f8.past, f7.past, f6.past, f5.past, f4.past, f3.past, f2.past, f1.past, f0.past, z) refl))
