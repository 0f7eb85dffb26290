-- `versym::section` meets its contract: the length of the file comes first.
-- Assumes nothing.
use Rattle.std.proofs.Common.{le-leb}
use Rattle.std.proofs.lemmas.Bool.{lt-leb}
use Rattle.answer.proofs.Laws.{must_on, must_off}
use Rattle.versym.proofs.section.Goals as goal

pub returns-then-file-gt-FILE_LIMIT : goal.returns-then-file-gt-FILE_LIMIT
returns-then-file-gt-FILE_LIMIT c = must_off _ _ _ _ (lt-leb _ _ c.if-file-gt-FILE_LIMIT.true) c.into.ensures

pub returns : goal.returns
returns c = must_on _ _ _ _ (le-leb _ _ c.if-file-gt-FILE_LIMIT.false) c.section.ensures
