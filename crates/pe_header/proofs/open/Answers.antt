-- `pe_header::open` meets its contract: at each `return`, what the readers answered on the way are the premises of a law of `open_of`.
-- Assumes nothing.
use Rattle.std.proofs.Common.{◌≡◌, refl, ◌∙◌, Err, rules}
use Rattle.pe_header.proofs.Laws.{pointer_read, pointer_missed, open_long, open_pointer, open_coff, open_optional, open_rows, open_whole}
use Rattle.pe_header.proofs.open.Goals as goal

pub returns-then-file-gt-FILE_LIMIT : goal.returns-then-file-gt-FILE_LIMIT
returns-then-file-gt-FILE_LIMIT c = open_long _ c.if-file-gt-FILE_LIMIT.true c.into.ensures

pub returns-in_err-dos : goal.returns-in_err-dos
returns-in_err-dos c =
    let p = pointer_missed _ c.read.ensures c.in_err-dos.was in
    let k : c.from_residual.result ≡ Err c.in_err-dos.field-0.0 = search rules in
    k ∙ open_pointer _ c.if-file-gt-FILE_LIMIT.false p refl

pub returns-in_err-coff : goal.returns-in_err-coff
returns-in_err-coff c =
    let p = pointer_read _ c.read.ensures c.in_ok-dos.was in
    let k : c.from_residual-in_err-coff.result ≡ Err c.in_err-coff.field-0.0 = search rules in
    k ∙ open_coff _ c.if-file-gt-FILE_LIMIT.false p refl c.read_coff.ensures c.in_err-coff.was

pub returns-in_err-optional : goal.returns-in_err-optional
returns-in_err-optional c =
    let p = pointer_read _ c.read.ensures c.in_ok-dos.was in
    let k : c.from_residual-in_err-optional.result ≡ Err c.in_err-optional.field-0.0 = search rules in
    k
    ∙ open_optional _ c.if-file-gt-FILE_LIMIT.false p refl c.read_coff.ensures c.in_ok-coff.was c.read-2.ensures c.in_err-optional.was

pub returns-in_err-read_rows : goal.returns-in_err-read_rows
returns-in_err-read_rows c =
    let p = pointer_read _ c.read.ensures c.in_ok-dos.was in
    let k : c.from_residual-in_err-read_rows.result ≡ Err c.in_err-read_rows.field-0.0 = search rules in
    k
    ∙ open_rows _ c.if-file-gt-FILE_LIMIT.false p refl c.read_coff.ensures c.in_ok-coff.was c.read-2.ensures c.in_ok-optional.was
    c.read_rows.ensures c.in_err-read_rows.was

pub returns : goal.returns
returns c =
    let p = pointer_read _ c.read.ensures c.in_ok-dos.was in
    open_whole _ c.if-file-gt-FILE_LIMIT.false p refl c.read_coff.ensures c.in_ok-coff.was c.read-2.ensures c.in_ok-optional.was
    c.read_rows.ensures c.in_ok-read_rows.was
