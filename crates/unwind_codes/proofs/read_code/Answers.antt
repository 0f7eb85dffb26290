-- `unwind_codes::read_code` meets its contract: at each `return`, what the parts of the info answered are the premises of a law of
-- `read_code_of`.
-- Assumes nothing.
use Rattle.std.proofs.Common.{◌≡◌, sym, ap, ◌∙◌, Err, arith, rules}
use Rattle.unwind_info.proofs.Laws.{header_told, header_start}
use Rattle.unwind_codes.specs.Code.{nth_in}
use Rattle.unwind_codes.proofs.Laws.{code_long, code_header, code_refused, code_given, code_cut}
use Rattle.unwind_codes.proofs.read_code.Goals as goal

pub returns-then-file-gt-FILE_LIMIT : goal.returns-then-file-gt-FILE_LIMIT
returns-then-file-gt-FILE_LIMIT c = code_long _ _ _ c.if-file-gt-FILE_LIMIT.true c.into.ensures

pub returns-in_err-header : goal.returns-in_err-header
returns-in_err-header c =
    let k : c.from_residual.result ≡ Err c.in_err-header.field-0.0 = search rules in
    k ∙ code_header _ _ _ c.if-file-gt-FILE_LIMIT.false c.read_header.ensures c.in_err-header.was

pub nth-requires : goal.nth-requires
nth-requires c =
    let w = header_told _ _ (sym c.in_ok-header.was ∙ c.read_header.ensures) in
    let p = header_start _ _ w in
    omega (arith, w.inside)

pub returns-in_err-code : goal.returns-in_err-code
returns-in_err-code c =
    let k : c.from_residual-in_err-code.result ≡ Err c.in_err-code.field-0.0 = search rules in
    k
    ∙ code_refused _ _ _ c.if-file-gt-FILE_LIMIT.false c.read_header.ensures c.in_ok-header.was c.nth.ensures (ap nth_in c.in_err-code.was)

pub returns-in_err-read_follows : goal.returns-in_err-read_follows
returns-in_err-read_follows c =
    let k : c.from_residual-in_err-read_follows.result ≡ Err c.in_err-read_follows.field-0.0 = search rules in
    k
    ∙ code_cut _ _ _ c.if-file-gt-FILE_LIMIT.false c.read_header.ensures c.in_ok-header.was c.nth.ensures c.read_follows.ensures
    c.in_ok-code.code (ap nth_in c.in_ok-code.was) c.in_err-read_follows.was

pub returns : goal.returns
returns c =
    code_given _ _ _ c.if-file-gt-FILE_LIMIT.false c.read_header.ensures c.in_ok-header.was c.nth.ensures c.read_follows.ensures
    c.in_ok-code.code (ap nth_in c.in_ok-code.was) c.in_ok-read_follows.was c.into-2.ensures c.ok_or.ensures.value
