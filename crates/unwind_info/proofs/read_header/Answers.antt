-- `unwind_info::read_header` meets its contract: the first byte is missing, its version is unknown, or the rest decides: each byte is taken
-- where the one before it ends, a byte that is missing refuses as the layout does, and the slots are all there or not.
-- Assumes nothing.
use Rattle.std.proofs.Common.{◌≡◌, sym, ◌∙◌, ◌+◌, ◌*◌, ◌≤◌, ◌<◌, false, length, Err, leb-true, leb-false, arith, rules}
use Rattle.layout.specs.Layout.{widths}
use Rattle.cursor.proofs.Laws.{new_at, took, cut}
use Rattle.layout.proofs.Laws.{missed_by}
use Rattle.unwind_operation.proofs.Laws.{info_of_lem}
use Rattle.unwind_info.specs.Unwind.{others, rest_at}
use Rattle.unwind_info.proofs.Laws.{header_cut, header_version, header_rest, slots_there, slots_cut, rest_whole}
use Rattle.unwind_info.proofs.read_header.Goals as goal

pub returns-in_err-first : goal.returns-in_err-first
returns-in_err-first c =
    let k : c.from_residual.result ≡ Err c.in_err-first.field-0.0 = search rules in
    k ∙ header_cut _ _ (new_at c.new-cursor.ensures) (cut false 1 _ c.next.ensures c.in_err-first.was)

pub returns-then-not-known_version : goal.returns-then-not-known_version
returns-then-not-known_version c =
    let f = took false 1 _ c.next.ensures c.in_ok-first.was in
    header_version _ _ (new_at c.new-cursor.ensures) f (sym c.known_version.ensures ∙ c.if-not-known_version.true) c.into.ensures

pub returns-in_err-size_of_prolog : goal.returns-in_err-size_of_prolog
unfolding rest_at
returns-in_err-size_of_prolog c =
    let f = took false 1 _ c.next.ensures c.in_ok-first.was in
    let m = cut false 1 _ c.next-2.ensures c.in_err-size_of_prolog.was in
    let k : c.from_residual-in_err-size_of_prolog.result ≡ Err c.in_err-size_of_prolog.field-0.0 = search rules in
    header_rest _ _ (new_at c.new-cursor.ensures) f (sym c.known_version.ensures ∙ c.if-not-known_version.false)
    (missed_by false (widths others) 0 (omega arith) _ Err _ _ _ m (omega arith) (λ i. omega arith) k)

pub returns-in_err-count_of_codes : goal.returns-in_err-count_of_codes
unfolding rest_at
returns-in_err-count_of_codes c =
    let f = took false 1 _ c.next.ensures c.in_ok-first.was in
    let f0 = took false 1 _ c.next-2.ensures c.in_ok-size_of_prolog.was in
    let m = cut false 1 _ c.next-3.ensures c.in_err-count_of_codes.was in
    let k : c.from_residual-in_err-count_of_codes.result ≡ Err c.in_err-count_of_codes.field-0.0 = search rules in
    header_rest _ _ (new_at c.new-cursor.ensures) f (sym c.known_version.ensures ∙ c.if-not-known_version.false)
    (missed_by false (widths others) 1 (omega arith) _ Err _ _ _ m (omega arith) (λ i. omega arith) k)

pub returns-in_err-frame : goal.returns-in_err-frame
unfolding rest_at
returns-in_err-frame c =
    let f = took false 1 _ c.next.ensures c.in_ok-first.was in
    let f0 = took false 1 _ c.next-2.ensures c.in_ok-size_of_prolog.was in
    let f1 = took false 1 _ c.next-3.ensures c.in_ok-count_of_codes.was in
    let m = cut false 1 _ c.next-4.ensures c.in_err-frame.was in
    let k : c.from_residual-in_err-frame.result ≡ Err c.in_err-frame.field-0.0 = search rules in
    header_rest _ _ (new_at c.new-cursor.ensures) f (sym c.known_version.ensures ∙ c.if-not-known_version.false)
    (missed_by false (widths others) 2 (omega arith) _ Err _ _ _ m (omega arith) (λ i. omega arith) k)

pub returns-then-not-fits : goal.returns-then-not-fits
returns-then-not-fits c =
    let f = took false 1 _ c.next.ensures c.in_ok-first.was in
    let f0 = took false 1 _ c.next-2.ensures c.in_ok-size_of_prolog.was in
    let f1 = took false 1 _ c.next-3.ensures c.in_ok-count_of_codes.was in
    let f2 = took false 1 _ c.next-4.ensures c.in_ok-frame.was in
    let l : length c.args.s.now < c.in_ok-frame.cursor.at + 2 * c.in_ok-count_of_codes.count_of_codes =
    leb-false _ _ (sym c.fits.ensures ∙ c.if-not-fits.true) in
    header_rest _ _ (new_at c.new-cursor.ensures) f (sym c.known_version.ensures ∙ c.if-not-known_version.false)
    (rest_whole _ _ _ f0 f1 f2 (slots_cut _ _ l c.cut.ensures))

pub returns : goal.returns
returns c =
    let f = took false 1 _ c.next.ensures c.in_ok-first.was in
    let f0 = took false 1 _ c.next-2.ensures c.in_ok-size_of_prolog.was in
    let f1 = took false 1 _ c.next-3.ensures c.in_ok-count_of_codes.was in
    let f2 = took false 1 _ c.next-4.ensures c.in_ok-frame.was in
    let l : c.in_ok-frame.cursor.at + 2 * c.in_ok-count_of_codes.count_of_codes ≤ length c.args.s.now =
    leb-true _ _ (sym c.fits.ensures ∙ c.if-not-fits.false) in
    header_rest _ _ (new_at c.new-cursor.ensures) f (sym c.known_version.ensures ∙ c.if-not-known_version.false)
    (rest_whole _ _ _ f0 f1 f2 (rw (info_of_lem c.in_ok-frame.frame (omega arith)) (slots_there _ _ l)))
