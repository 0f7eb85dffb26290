-- `runtime_lookup::inside` meets its contract: every record read lies in the file, since the table does, and each turn leaves the search to
-- the records left.
-- Assumes nothing.
use Rattle.std.proofs.Common.{ap, arith}
use Rattle.runtime_lookup.specs.Code.{search_of}
use Rattle.runtime_lookup.proofs.Laws.{start, none_left, inside_room, inside_read, inside_before, inside_holds, inside_after}
use Rattle.runtime_lookup.proofs.inside.Goals as goal

pub loop-low-init : goal.loop-low-init
loop-low-init c = start _ _ _

pub overflow_add-middle : goal.overflow_add-middle
overflow_add-middle c =
    let r = inside_room _ _ _ _ _ _ _ c.requires.table_within c.loop-low.invariant c.loop-low-test.true in omega
    (arith, c.loop-low.invariant.within)

pub overflow_mul-at : goal.overflow_mul-at
overflow_mul-at c = let r = inside_room _ _ _ _ _ _ _ c.requires.table_within c.loop-low.invariant c.loop-low-test.true in omega arith

pub overflow_add-at : goal.overflow_add-at
overflow_add-at c = let r = inside_room _ _ _ _ _ _ _ c.requires.table_within c.loop-low.invariant c.loop-low-test.true in omega arith

pub u32_at-begin-requires : goal.u32_at-begin-requires
u32_at-begin-requires c = let r = inside_room _ _ _ _ _ _ _ c.requires.table_within c.loop-low.invariant c.loop-low-test.true in omega arith

pub overflow_add-at-in-loop-low : goal.overflow_add-at-in-loop-low
overflow_add-at-in-loop-low c = let r = inside_room _ _ _ _ _ _ _ c.requires.table_within c.loop-low.invariant c.loop-low-test.true in omega arith

pub u32_at-end-requires : goal.u32_at-end-requires
u32_at-end-requires c = let r = inside_room _ _ _ _ _ _ _ c.requires.table_within c.loop-low.invariant c.loop-low-test.true in omega arith

pub overflow_add-reads : goal.overflow_add-reads
overflow_add-reads c = let r = inside_read _ _ _ _ _ _ _ c.requires.table_within c.loop-low.invariant c.loop-low-test.true c.requires.file_within in omega arith

pub loop-low-preserved-then-address-begin : goal.loop-low-preserved-then-address-begin
loop-low-preserved-then-address-begin c =
    inside_before _ _ _ _ _ _ _ c.requires.table_within c.loop-low.invariant c.loop-low-test.true c.u32_at-begin.ensures
    c.if-address-begin.true

pub returns-then-address-end : goal.returns-then-address-end
returns-then-address-end c =
    ap search_of (inside_holds _ _ _ _ _ _ _ c.requires.table_within c.loop-low.invariant c.loop-low-test.true c.u32_at-begin.ensures
    c.u32_at-end.ensures c.if-address-begin.false c.if-address-end.true)

pub loop-low-preserved : goal.loop-low-preserved
loop-low-preserved c =
    inside_after _ _ _ _ _ _ _ c.requires.table_within c.loop-low.invariant c.loop-low-test.true c.u32_at-begin.ensures
    c.u32_at-end.ensures c.if-address-begin.false c.if-address-end.false

pub returns : goal.returns
returns c = ap search_of (none_left _ _ _ _ _ _ c.loop-low.invariant c.loop-low-test.false)
