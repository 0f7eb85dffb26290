-- `runtime_lookup::tested` meets its contract: each turn reads a record or ends at one that is not there, and leaves the search to the
-- records left.
-- Assumes nothing.
use Rattle.std.proofs.Common.{ap, arith}
use Rattle.runtime_lookup.specs.Code.{search_of}
use Rattle.runtime_lookup.proofs.Laws.{start, none_left, tested_gone, tested_read, tested_before, tested_holds, tested_after}
use Rattle.runtime_lookup.proofs.tested.Goals as goal

pub loop-low-init : goal.loop-low-init
loop-low-init c = start _ _ _

pub overflow_add-reads : goal.overflow_add-reads
overflow_add-reads c =
    let r = tested_read _ _ _ _ _ _ _ c.loop-low.invariant c.loop-low-test.true _ (omega (arith, c.loop-low-test.true))
    c.get_entry.ensures c.in-Ok.is c.requires in omega arith

pub loop-low-preserved-then-address-e : goal.loop-low-preserved-then-address-e
loop-low-preserved-then-address-e c =
    tested_before _ _ _ _ _ _ _ c.loop-low.invariant c.loop-low-test.true _ (omega (arith, c.loop-low-test.true)) c.get_entry.ensures
    c.in-Ok.is c.if-address-e.true

pub returns-then-address-e-2 : goal.returns-then-address-e-2
returns-then-address-e-2 c =
    ap search_of (tested_holds _ _ _ _ _ _ _ c.loop-low.invariant c.loop-low-test.true _ (omega (arith, c.loop-low-test.true))
    c.get_entry.ensures c.in-Ok.is c.if-address-e.false c.if-address-e-2.true)

pub loop-low-preserved : goal.loop-low-preserved
loop-low-preserved c =
    tested_after _ _ _ _ _ _ _ c.loop-low.invariant c.loop-low-test.true _ (omega (arith, c.loop-low-test.true)) c.get_entry.ensures
    c.in-Ok.is c.if-address-e.false c.if-address-e-2.false

pub returns-in_default : goal.returns-in_default
returns-in_default c =
    ap search_of (tested_gone _ _ _ _ _ _ _ c.loop-low.invariant c.loop-low-test.true _ (omega (arith, c.loop-low-test.true))
    c.get_entry.ensures c.in_default.is)

pub returns : goal.returns
returns c = ap search_of (none_left _ _ _ _ _ _ c.loop-low.invariant c.loop-low-test.false)
