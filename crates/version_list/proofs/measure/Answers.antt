-- `version_list::measure` meets its contract. The invariant of its loop: the entries passed and those of the list that is left are those of
-- the whole list, and the whole list ends as the one that is left does.
-- Assumes nothing.
use Rattle.std.proofs.Common.{sym, ◌∙◌, arith}
use Rattle.version_list.proofs.Laws.{passed_none, passed_next, total_last, total_bad, total_all, next_there}
use Rattle.version_list.proofs.measure.Goals as goal

pub loop-entries-init : goal.loop-entries-init
loop-entries-init c = passed_none _ _ _ _ _

pub overflow_add-place : goal.overflow_add-place
overflow_add-place c = omega (arith, next_there c.args.kind c.args.big c.args.section.now c.loop-entries.place (sym c.in-Next.is ∙ c.onward_at.ensures))

pub returns-in-Last : goal.returns-in-Last
returns-in-Last c = total_last _ _ _ c.loop-entries.invariant c.loop-entries-test.true (sym c.in-Last.is ∙ c.onward_at.ensures)

pub returns-in-Bad : goal.returns-in-Bad
returns-in-Bad c = total_bad _ _ _ c.loop-entries.invariant c.loop-entries-test.true (sym c.in-Bad.is ∙ c.onward_at.ensures)

pub loop-entries-preserved : goal.loop-entries-preserved
loop-entries-preserved c = passed_next _ _ _ c.loop-entries.invariant c.loop-entries-test.true (sym c.in-Next.is ∙ c.onward_at.ensures)

pub returns : goal.returns
returns c = total_all _ _ _ c.loop-entries.invariant (omega arith)
