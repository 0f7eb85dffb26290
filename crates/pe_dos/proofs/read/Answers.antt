-- `pe_dos::read` meets its contract: the signature is judged, then the run after it and the PE pointer tell how the layout is read.
-- Assumes nothing.
use Rattle.std.proofs.Common.{◌≡◌, ◌∙◌, ◌+◌, false, Err, arith, rules}
use Rattle.fields.specs.Number.{number_at}
use Rattle.cursor.proofs.Laws.{new_at, took, cut}
use Rattle.pe_dos.proofs.Laws.{dos_missed, dos_wrong, dos_rest, run_missed, run_whole, pointer_missed, pointer_read}
use Rattle.pe_dos.proofs.read.Goals as goal

pub returns-in_err-signature : goal.returns-in_err-signature
returns-in_err-signature c =
    let z = new_at c.new-cursor.ensures in
    let m = cut false 2 _ c.next.ensures c.in_err-signature.was in
    let k : c.from_residual.result ≡ Err c.in_err-signature.field-0.0 = search rules in
    k ∙ dos_missed _ _ (rw z at m)

pub returns-then-signature-ne-SIGNATURE : goal.returns-then-signature-ne-SIGNATURE
returns-then-signature-ne-SIGNATURE c =
    let z = new_at c.new-cursor.ensures in
    let f = took false 2 _ c.next.ensures c.in_ok-signature.was in
    let e : c.in_ok-signature.signature ≡ number_at false 2 c.args.s.now c.args.at = rw z at f.value in
    dos_wrong _ _ (omega arith) e c.if-signature-ne-SIGNATURE.true c.into.ensures

pub returns-in_err-halves : goal.returns-in_err-halves
returns-in_err-halves c =
    let z = new_at c.new-cursor.ensures in
    let f = took false 2 _ c.next.ensures c.in_ok-signature.was in
    let e : c.in_ok-signature.signature ≡ number_at false 2 c.args.s.now c.args.at = rw z at f.value in
    let p : c.in_ok-signature.cursor.at ≡ c.args.at + 2 = omega arith in
    let h = rw p at c.halves_at.ensures in
    let k : c.from_residual-in_err-halves.result ≡ Err c.in_err-halves.field-0.0 = search rules in
    k ∙ dos_rest _ _ (omega arith) e c.if-signature-ne-SIGNATURE.false (run_missed _ _ _ h c.in_err-halves.was)

pub returns-in_err-pe_pointer : goal.returns-in_err-pe_pointer
returns-in_err-pe_pointer c =
    let z = new_at c.new-cursor.ensures in
    let f = took false 2 _ c.next.ensures c.in_ok-signature.was in
    let e : c.in_ok-signature.signature ≡ number_at false 2 c.args.s.now c.args.at = rw z at f.value in
    let p : c.in_ok-signature.cursor.at ≡ c.args.at + 2 = omega arith in
    let h = rw p at c.halves_at.ensures in
    let m = cut false 4 _ c.next-2.ensures c.in_err-pe_pointer.was in
    let k : c.from_residual-in_err-pe_pointer.result ≡ Err c.in_err-pe_pointer.field-0.0 = search rules in
    k
    ∙ dos_rest _ _ (omega arith) e c.if-signature-ne-SIGNATURE.false
    (pointer_missed _ _ _ _ (run_whole _ _ _ h c.in_ok-halves.was) m)

pub returns : goal.returns
returns c =
    let z = new_at c.new-cursor.ensures in
    let f = took false 2 _ c.next.ensures c.in_ok-signature.was in
    let e : c.in_ok-signature.signature ≡ number_at false 2 c.args.s.now c.args.at = rw z at f.value in
    let p : c.in_ok-signature.cursor.at ≡ c.args.at + 2 = omega arith in
    let h = rw p at c.halves_at.ensures in
    let g = took false 4 _ c.next-2.ensures c.in_ok-pe_pointer.was in
    rw (c.header_of.ensures, e)
    (dos_rest _ _ (omega arith) e c.if-signature-ne-SIGNATURE.false
    (pointer_read _ _ _ _ (run_whole _ _ _ h c.in_ok-halves.was) g.inside g.value))
