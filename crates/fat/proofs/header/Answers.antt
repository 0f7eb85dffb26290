-- `fat::header` meets its contract: at each return, the fields that were taken and the tests on the way are the premises of a law of
-- `header_in`.
-- Assumes nothing.
use Rattle.std.proofs.Common.{◌≡◌, sym, ◌∙◌, true, Err, arith, rules}
use Rattle.cursor.proofs.Laws.{new_at, took, cut}
use Rattle.fat_member.proofs.Laws.{number_there}
use Rattle.fat.proofs.Laws.{header_long, header_no_magic, header_other, header_no_count, header_many, header_count}
use Rattle.fat.proofs.header.Goals as goal

pub returns-then-file-gt-FILE_LIMIT : goal.returns-then-file-gt-FILE_LIMIT
returns-then-file-gt-FILE_LIMIT c = header_long _ (omega arith) c.into.ensures

pub returns-in_err-magic : goal.returns-in_err-magic
returns-in_err-magic c =
    let z = new_at c.new-cursor.ensures in
    let m = cut true 4 _ c.next.ensures c.in_err-magic.was in
    let k : c.from_residual.result ≡ Err c.in_err-magic.field-0.0 = search rules in
    k ∙ header_no_magic _ (omega arith) m z

pub returns-then-magic : goal.returns-then-magic
returns-then-magic c =
    let z = new_at c.new-cursor.ensures in
    let f0 = took true 4 _ c.next.ensures c.in_ok-magic.was in
    header_other _ (omega arith) (omega arith) (λ e. c.if-magic.true (number_there f0 z ∙ e)) c.into-then-magic.ensures

pub returns-in_err-count : goal.returns-in_err-count
returns-in_err-count c =
    let z = new_at c.new-cursor.ensures in
    let f0 = took true 4 _ c.next.ensures c.in_ok-magic.was in
    let right = sym (number_there f0 z) ∙ c.if-magic.false in
    let m = cut true 4 _ c.next-2.ensures c.in_err-count.was in
    let k : c.from_residual-in_err-count.result ≡ Err c.in_err-count.field-0.0 = search rules in
    k ∙ header_no_count _ (omega arith) right (omega arith) m (omega arith)

pub returns-then-count-gt-MEMBER_LIMIT : goal.returns-then-count-gt-MEMBER_LIMIT
returns-then-count-gt-MEMBER_LIMIT c =
    let z = new_at c.new-cursor.ensures in
    let f0 = took true 4 _ c.next.ensures c.in_ok-magic.was in
    let right = sym (number_there f0 z) ∙ c.if-magic.false in
    let f1 = took true 4 _ c.next-2.ensures c.in_ok-count.was in
    let n = number_there {at = 4} f1 (omega arith) in
    header_many _ (omega arith) right (omega arith) (omega arith) c.into-then-count-gt-MEMBER_LIMIT.ensures

pub returns : goal.returns
returns c =
    let z = new_at c.new-cursor.ensures in
    let f0 = took true 4 _ c.next.ensures c.in_ok-magic.was in
    let right = sym (number_there f0 z) ∙ c.if-magic.false in
    let f1 = took true 4 _ c.next-2.ensures c.in_ok-count.was in
    header_count _ (omega arith) right (omega arith) (omega arith) (number_there f1 (omega arith))
