-- `pe_header::read_coff` meets its contract: the number that was read and its test are the premises of a law of `coff_in`.
-- Assumes nothing.
use Rattle.std.proofs.Common.{◌≡◌, ◌∙◌, false, Err, arith, rules}
use Rattle.fields.proofs.Laws.{found, missed}
use Rattle.pe_header.proofs.Laws.{coff_missed, coff_wrong, coff_there_lem}
use Rattle.pe_header.proofs.read_coff.Goals as goal

pub returns-in_err-signature : goal.returns-in_err-signature
returns-in_err-signature c =
    let k : c.from_residual.result ≡ Err c.in_err-signature.field-0.0 = search rules in
    k ∙ coff_missed _ _ (missed false 4 _ _ c.read.ensures c.in_err-signature.was)

pub returns-then-signature-ne-SIGNATURE : goal.returns-then-signature-ne-SIGNATURE
returns-then-signature-ne-SIGNATURE c =
    let f = found false 4 _ _ c.read.ensures c.in_ok-signature.was in
    coff_wrong _ _ f.inside f.value c.if-signature-ne-SIGNATURE.true c.into.ensures

pub overflow_add-at : goal.overflow_add-at
overflow_add-at c =
    let f = found false 4 _ _ c.read.ensures c.in_ok-signature.was in
    omega arith

pub returns : goal.returns
returns c =
    let f = found false 4 _ _ c.read.ensures c.in_ok-signature.was in
    coff_there_lem _ _ f.inside f.value c.if-signature-ne-SIGNATURE.false c.read-2.ensures
