-- `fat_member::read` meets its contract: each field is taken where the one before it ends, and each return is a case of `read_of`.
-- Assumes nothing.
use Rattle.std.proofs.Common.{◌≡◌, refl, sym, ◌∙◌, ◌+◌, ◌≤◌, ◌<◌, length, true, leb-true, leb-false, Err, arith, rules}
use Rattle.layout.specs.Layout.{numbers_at}
use Rattle.cursor.proofs.Laws.{new_at, took, cut}
use Rattle.fat_member.specs.FatArch.{fat_arch}
use Rattle.fat_member.proofs.Laws.{number_there, member_no_front, member_past, member_no_back, member_whole}
use Rattle.fat_member.proofs.read.Goals as goal

pub returns-in_err-cputype : goal.returns-in_err-cputype
returns-in_err-cputype c =
    let z = new_at c.new-cursor.ensures in
    let m = cut true 4 _ c.next.ensures c.in_err-cputype.was in
    let k : c.from_residual.result ≡ Err c.in_err-cputype.field-0.0 = search rules in
    k ∙ member_no_front fat_arch _ _ 0 (omega arith) m (omega arith) (λ i. omega arith)

pub returns-in_err-cpusubtype : goal.returns-in_err-cpusubtype
returns-in_err-cpusubtype c =
    let z = new_at c.new-cursor.ensures in
    let f0 = took true 4 _ c.next.ensures c.in_ok-cputype.was in
    let m = cut true 4 _ c.next-2.ensures c.in_err-cpusubtype.was in
    let k : c.from_residual-in_err-cpusubtype.result ≡ Err c.in_err-cpusubtype.field-0.0 = search rules in
    k ∙ member_no_front fat_arch _ _ 1 (omega arith) m (omega arith) (λ i. omega arith)

pub returns-in_err-offset : goal.returns-in_err-offset
returns-in_err-offset c =
    let z = new_at c.new-cursor.ensures in
    let f0 = took true 4 _ c.next.ensures c.in_ok-cputype.was in
    let f1 = took true 4 _ c.next-2.ensures c.in_ok-cpusubtype.was in
    let m = cut true 4 _ c.next-3.ensures c.in_err-offset.was in
    let k : c.from_residual-in_err-offset.result ≡ Err c.in_err-offset.field-0.0 = search rules in
    k ∙ member_no_front fat_arch _ _ 2 (omega arith) m (omega arith) (λ i. omega arith)

pub returns-in_err-size : goal.returns-in_err-size
returns-in_err-size c =
    let z = new_at c.new-cursor.ensures in
    let f0 = took true 4 _ c.next.ensures c.in_ok-cputype.was in
    let f1 = took true 4 _ c.next-2.ensures c.in_ok-cpusubtype.was in
    let f2 = took true 4 _ c.next-3.ensures c.in_ok-offset.was in
    let m = cut true 4 _ c.next-4.ensures c.in_err-size.was in
    let k : c.from_residual-in_err-size.result ≡ Err c.in_err-size.field-0.0 = search rules in
    k ∙ member_no_front fat_arch _ _ 3 (omega arith) m (omega arith) (λ i. omega arith)

pub returns-then-not-fits : goal.returns-then-not-fits
unfolding numbers_at
returns-then-not-fits c =
    let z = new_at c.new-cursor.ensures in
    let f0 = took true 4 _ c.next.ensures c.in_ok-cputype.was in
    let f1 = took true 4 _ c.next-2.ensures c.in_ok-cpusubtype.was in
    let f2 = took true 4 _ c.next-3.ensures c.in_ok-offset.was in
    let f3 = took true 4 _ c.next-4.ensures c.in_ok-size.was in
    let n2 = number_there {at = c.args.at + 4 + 4} f2 (omega arith) in
    let n3 = number_there {at = c.args.at + 4 + 4 + 4} f3 (omega arith) in
    let h : length c.args.file.now < c.in_ok-offset.offset + c.in_ok-size.size = leb-false _ _ (sym c.fits.ensures ∙ c.if-not-fits.true) in
    member_past fat_arch _ _ (omega arith) (omega arith) c.into.ensures

pub returns-in_err-align : goal.returns-in_err-align
unfolding numbers_at
returns-in_err-align c =
    let z = new_at c.new-cursor.ensures in
    let f0 = took true 4 _ c.next.ensures c.in_ok-cputype.was in
    let f1 = took true 4 _ c.next-2.ensures c.in_ok-cpusubtype.was in
    let f2 = took true 4 _ c.next-3.ensures c.in_ok-offset.was in
    let f3 = took true 4 _ c.next-4.ensures c.in_ok-size.was in
    let n2 = number_there {at = c.args.at + 4 + 4} f2 (omega arith) in
    let n3 = number_there {at = c.args.at + 4 + 4 + 4} f3 (omega arith) in
    let h : c.in_ok-offset.offset + c.in_ok-size.size ≤ length c.args.file.now = leb-true _ _ (sym c.fits.ensures ∙ c.if-not-fits.false) in
    let m = cut true 4 _ c.next-5.ensures c.in_err-align.was in
    let k : c.from_residual-in_err-align.result ≡ Err c.in_err-align.field-0.0 = search rules in
    k ∙ member_no_back fat_arch _ _ (omega arith) (omega arith) 0 (omega arith) m (omega arith) (λ i. omega arith)

pub returns : goal.returns
unfolding numbers_at
returns c =
    let z = new_at c.new-cursor.ensures in
    let f0 = took true 4 _ c.next.ensures c.in_ok-cputype.was in
    let f1 = took true 4 _ c.next-2.ensures c.in_ok-cpusubtype.was in
    let f2 = took true 4 _ c.next-3.ensures c.in_ok-offset.was in
    let f3 = took true 4 _ c.next-4.ensures c.in_ok-size.was in
    let f4 = took true 4 _ c.next-5.ensures c.in_ok-align.was in
    let n0 = number_there {at = c.args.at} f0 (omega arith) in
    let n1 = number_there {at = c.args.at + 4} f1 (omega arith) in
    let n2 = number_there {at = c.args.at + 4 + 4} f2 (omega arith) in
    let n3 = number_there {at = c.args.at + 4 + 4 + 4} f3 (omega arith) in
    let n4 = number_there {at = c.args.at + 16} f4 (omega arith) in
    let h : c.in_ok-offset.offset + c.in_ok-size.size ≤ length c.args.file.now = leb-true _ _ (sym c.fits.ensures ∙ c.if-not-fits.false) in
    member_whole fat_arch _ _ (omega arith) (omega arith) (omega arith) (rw (c.into-2.ensures, c.into-3.ensures, ← n0, ← n1, ← n2, ← n3, ← n4) refl)
