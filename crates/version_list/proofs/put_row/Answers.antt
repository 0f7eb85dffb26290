-- `version_list::put_row` meets its contract: the place is stored, and the numbers of the record after it.
-- Assumes nothing.
use Rattle.std.proofs.Common.{◌∙◌}
use Rattle.version_list.proofs.Laws.{row_room, row_put}
use Rattle.version_list.proofs.put_row.Goals as goal

pub returns : goal.returns
returns c = (
  c.write.ensures.0 ∙ row_room c.args.kind c.args.section.now c.args.at c.args.out.now c.args.base c.requires.1 c.requires.2,
  row_put c.args.kind c.args.big c.args.section.now c.args.at _ _ c.args.base c.requires.1 c.requires.2 c.write.ensures.1,
)
