-- `unwind_links::next_info` meets its contract: what follows the codes of the info tells whether there is a link.
-- Assumes nothing.
use Rattle.std.proofs.Common.{◌≡◌, ◌∙◌, Err, rules}
use Rattle.unwind_links.proofs.Laws.{next_long, next_none, next_info, next_refused}
use Rattle.unwind_links.proofs.next_info.Goals as goal

pub returns-then-file-gt-FILE_LIMIT : goal.returns-then-file-gt-FILE_LIMIT
returns-then-file-gt-FILE_LIMIT c = next_long _ _ _ c.if-file-gt-FILE_LIMIT.true c.into.ensures

pub returns-in_default : goal.returns-in_default
returns-in_default c = next_none _ _ _ c.if-file-gt-FILE_LIMIT.false c.in_default.not-Chained

pub returns-in_err-there : goal.returns-in_err-there
returns-in_err-there c =
    let k : c.from_residual.result ≡ Err c.in_err-there.field-0.0 = search rules in
    k ∙ next_refused _ _ _ c.if-file-gt-FILE_LIMIT.false c.in-Chained.is c.chained_info.ensures c.in_err-there.was

pub returns : goal.returns
returns c = next_info _ _ _ c.if-file-gt-FILE_LIMIT.false c.in-Chained.is c.chained_info.ensures c.in_ok-there.was
