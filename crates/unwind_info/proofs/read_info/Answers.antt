-- `unwind_info::read_info` meets its contract: at each `return`, what the header and what follows answered are the premises of a law of
-- `read_info_of`.
-- Assumes nothing.
use Rattle.std.proofs.Common.{◌≡◌, ◌∙◌, Err, rules}
use Rattle.unwind_info.proofs.Laws.{info_long, info_refused, info_cut, info_whole}
use Rattle.unwind_info.proofs.read_info.Goals as goal

pub returns-then-file-gt-FILE_LIMIT : goal.returns-then-file-gt-FILE_LIMIT
returns-then-file-gt-FILE_LIMIT c = info_long _ _ c.if-file-gt-FILE_LIMIT.true c.into.ensures

pub returns-in_err-header : goal.returns-in_err-header
returns-in_err-header c =
    let k : c.from_residual.result ≡ Err c.in_err-header.field-0.0 = search rules in
    k ∙ info_refused _ _ c.if-file-gt-FILE_LIMIT.false c.read_header.ensures c.in_err-header.was

pub returns-in_err-follows : goal.returns-in_err-follows
returns-in_err-follows c =
    let k : c.from_residual-in_err-follows.result ≡ Err c.in_err-follows.field-0.0 = search rules in
    k ∙ info_cut _ _ c.if-file-gt-FILE_LIMIT.false c.read_header.ensures c.in_ok-header.was c.read_follows.ensures c.in_err-follows.was

pub returns : goal.returns
returns c =
    info_whole _ _ c.if-file-gt-FILE_LIMIT.false c.read_header.ensures c.in_ok-header.was c.read_follows.ensures c.in_ok-follows.was
