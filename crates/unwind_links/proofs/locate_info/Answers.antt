-- `unwind_links::locate_info` meets its contract: the file is too long, too many links have led here, or odd addresses are followed.
-- Assumes nothing.
use Rattle.unwind_links.proofs.Laws.{located_long, located_over, located_from}
use Rattle.unwind_links.proofs.locate_info.Goals as goal

pub returns-then-file-gt-FILE_LIMIT : goal.returns-then-file-gt-FILE_LIMIT
returns-then-file-gt-FILE_LIMIT c = located_long _ _ _ _ c.if-file-gt-FILE_LIMIT.true c.into.ensures

pub returns-then-links-gt-LIMIT : goal.returns-then-links-gt-LIMIT
returns-then-links-gt-LIMIT c =
    located_over _ _ _ _ c.if-file-gt-FILE_LIMIT.false c.if-links-gt-LIMIT.true c.into-then-links-gt-LIMIT.ensures

pub returns-else-links-gt-LIMIT : goal.returns-else-links-gt-LIMIT
returns-else-links-gt-LIMIT c = located_from _ _ _ _ c.if-file-gt-FILE_LIMIT.false c.if-links-gt-LIMIT.false c.locate.ensures
