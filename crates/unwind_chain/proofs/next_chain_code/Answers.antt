-- `unwind_chain::next_chain_code` meets its contract: the file is too long, a code is left in the info, or none is.
-- Assumes nothing.
use Rattle.unwind_chain.proofs.Next.{next_long, next_code, next_after}
use Rattle.unwind_chain.proofs.next_chain_code.Goals as goal

pub returns-then-file-gt-FILE_LIMIT : goal.returns-then-file-gt-FILE_LIMIT
returns-then-file-gt-FILE_LIMIT c = next_long _ _ _ c.if-file-gt-FILE_LIMIT.true c.into.ensures

pub returns-then-cursor : goal.returns-then-cursor
returns-then-cursor c = next_code _ _ _ c.if-file-gt-FILE_LIMIT.false c.if-cursor.true c.code_at.ensures

pub returns : goal.returns
returns c = next_after _ _ _ c.if-file-gt-FILE_LIMIT.false c.if-cursor.false c.after_codes.ensures
