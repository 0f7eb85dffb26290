-- `exception_data::get_function` meets its contract: each test is a check of the definition, in its order.
-- Assumes nothing.
use Rattle.exception_data.proofs.Laws.{record_long, record_none, record_at_lem}
use Rattle.exception_data.proofs.get_function.Goals as goal

pub returns-then-file-gt-FILE_LIMIT : goal.returns-then-file-gt-FILE_LIMIT
returns-then-file-gt-FILE_LIMIT c = record_long _ c.args.opened _ c.if-file-gt-FILE_LIMIT.true c.into.ensures

pub returns-then-index-opened : goal.returns-then-index-opened
returns-then-index-opened c = record_at_lem _ c.args.opened _ c.if-file-gt-FILE_LIMIT.false c.if-index-opened.true c.get_entry.ensures

pub returns : goal.returns
returns c = record_none _ c.args.opened _ c.if-file-gt-FILE_LIMIT.false c.if-index-opened.false c.into-2.ensures
