-- `version_list::place_after` meets its contract: each way on is that of the step.
-- Assumes nothing.
use Rattle.std.proofs.Common.{sym, ◌∙◌, arith}
use Rattle.version_list.proofs.Laws.{next_there}
use Rattle.version_list.proofs.place_after.Goals as goal

pub overflow_add-result : goal.overflow_add-result
overflow_add-result c = omega (arith, next_there c.args.kind c.args.big c.args.section.now c.args.at (sym c.in-Next.is ∙ c.onward_at.ensures))
