-- `unwind_codes::check_info` meets its contract: at each `return`, what the parts of the info answered are the premises of a law of
-- `whole_info_at`.
-- Assumes nothing.
use Rattle.std.proofs.Common.{◌≡◌, sym, ap, ◌∙◌, Err, arith, rules}
use Rattle.unwind_info.proofs.Laws.{header_told, header_start}
use Rattle.unwind_codes.specs.Codes.{codes_of, checked_of}
use Rattle.unwind_codes.proofs.Laws.{count_told, refusal_told, whole_long, whole_header, whole_codes, whole_follows, whole_is, checked_is}
use Rattle.unwind_codes.proofs.check_info.Goals as goal

pub returns-then-file-gt-FILE_LIMIT : goal.returns-then-file-gt-FILE_LIMIT
returns-then-file-gt-FILE_LIMIT c = ap checked_of (whole_long _ _ c.if-file-gt-FILE_LIMIT.true c.into.ensures)

pub returns-in_err-header : goal.returns-in_err-header
returns-in_err-header c =
    let k : c.from_residual.result ≡ Err c.in_err-header.field-0.0 = search rules in
    k ∙ ap checked_of (whole_header _ _ c.if-file-gt-FILE_LIMIT.false c.read_header.ensures c.in_err-header.was)

pub count-requires : goal.count-requires
count-requires c =
    let w = header_told _ _ (sym c.in_ok-header.was ∙ c.read_header.ensures) in
    let p = header_start _ _ w in
    omega (arith, w.inside)

pub returns-in_err-codes : goal.returns-in_err-codes
returns-in_err-codes c =
    let k : c.from_residual-in_err-codes.result ≡ Err c.in_err-codes.field-0.0 = search rules in
    let n = refusal_told (codes_of c.args.file.now c.in_ok-header.header) c.count.ensures c.in_err-codes.was in
    k ∙ ap checked_of (whole_codes _ _ c.if-file-gt-FILE_LIMIT.false c.read_header.ensures c.in_ok-header.was n)

pub returns-in_err-follows : goal.returns-in_err-follows
returns-in_err-follows c =
    let k : c.from_residual-in_err-follows.result ≡ Err c.in_err-follows.field-0.0 = search rules in
    let n = count_told (codes_of c.args.file.now c.in_ok-header.header) c.count.ensures c.in_ok-codes.was in
    k
    ∙ ap checked_of
    (whole_follows _ _ c.if-file-gt-FILE_LIMIT.false c.read_header.ensures c.in_ok-header.was n.0 c.read_follows.ensures
    c.in_err-follows.was)

pub returns : goal.returns
returns c =
    let n = count_told (codes_of c.args.file.now c.in_ok-header.header) c.count.ensures c.in_ok-codes.was in
    checked_is n.1
    (whole_is _ _ c.if-file-gt-FILE_LIMIT.false c.read_header.ensures c.in_ok-header.was n.0 c.read_follows.ensures c.in_ok-follows.was)
