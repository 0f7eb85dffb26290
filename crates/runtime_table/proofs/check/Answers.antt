-- `runtime_table::check` meets its contract: each test is a check of the definition, in its order.
-- Assumes nothing.
use Rattle.std.proofs.Common.{sym, ◌∙◌, arith}
use Rattle.answer.proofs.Laws.{cut_beyond}
use Rattle.runtime_table.proofs.Laws.{check_long, check_past, check_disorder, check_on}
use Rattle.runtime_table.proofs.check.Goals as goal

pub returns-then-file-gt-FILE_LIMIT : goal.returns-then-file-gt-FILE_LIMIT
returns-then-file-gt-FILE_LIMIT c = check_long _ _ _ c.if-file-gt-FILE_LIMIT.true c.into.ensures

pub returns-then-in_order : goal.returns-then-in_order
returns-then-in_order c =
    check_on _ _ _ c.if-file-gt-FILE_LIMIT.false (sym c.if-lies.ensures) (sym c.if-in_order.ensures)

pub returns-then-lies : goal.returns-then-lies
returns-then-lies c =
    check_disorder _ _ _ c.if-file-gt-FILE_LIMIT.false (sym c.if-lies.ensures) (sym c.if-in_order.ensures) c.into-then-lies.ensures

pub returns-then-count : goal.returns-then-count
returns-then-count c =
    check_past _ _ _ c.if-file-gt-FILE_LIMIT.false (sym c.if-lies.ensures) (c.beyond.ensures ∙ cut_beyond _ (omega arith))

pub returns : goal.returns
returns c = check_past _ _ _ c.if-file-gt-FILE_LIMIT.false (sym c.if-lies.ensures) c.cut.ensures
