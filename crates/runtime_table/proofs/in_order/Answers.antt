-- `runtime_table::in_order` meets its contract: a record that is read is passed, or it meets the one before it, or holds no address.
-- Assumes nothing.
use Rattle.runtime_table.proofs.Laws.{entry_whole, seen_begin, seen_end, lies_read, pass_all, pass_meets, pass_empty, pass_on}
use Rattle.runtime_table.proofs.in_order.Goals as goal
use Rattle.runtime_table.proofs.in_order.Goals.{then-e-end-via-then-e-end, then-e-end-via-else-e-end+then-e}

pub returns-in_default : goal.returns-in_default
returns-in_default c = absurd (lies_read _ _ _ _ c.loop-index-test.true c.requires c.get_entry.ensures c.in_default.is)

pub returns-then-e-end : goal.returns-then-e-end
returns-then-e-end c =
    let v = entry_whole _ _ _ c.get_entry.ensures c.in-Ok.is in
    let b = seen_begin _ _ _ v in
    elim c.then-e-end.branch [
      | then-e-end-via-then-e-end w ↦ pass_meets _ _ _ _ c.loop-index.invariant c.loop-index-test.true b w.if-e-end.true
      | then-e-end-via-else-e-end+then-e w ↦
          pass_empty _ _ _ _ c.loop-index.invariant c.loop-index-test.true b (seen_end _ _ _ v) w.if-e.true
    ]

pub loop-index-preserved : goal.loop-index-preserved
loop-index-preserved c =
    let v = entry_whole _ _ _ c.get_entry.ensures c.in-Ok.is in
    pass_on _ _ _ _ c.loop-index.invariant c.loop-index-test.true (seen_begin _ _ _ v) (seen_end _ _ _ v) c.if-e-end.false c.if-e.false

pub returns : goal.returns
returns c = pass_all _ _ _ _ c.loop-index.invariant c.loop-index-test.false
