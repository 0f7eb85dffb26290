-- `version_list::measure` meets its contract. The invariant of its loop: the entries passed and those of the list that is left are those of
-- the whole list, and the whole list ends as the one that is left does.
-- Assumes nothing.
use Rattle.version_list.proofs.Laws.{Passed}
use Rattle.version_list.proofs.measure.Given as goal

abbrev pub invariant-loop-entries : goal.invariant-loop-entries
invariant-loop-entries l = Passed l.kind l.big l.section l.stated l.at l.entries l.place
