-- `version_list::list_in` meets its contract: the first pass says how many rows there are, and where they fit the second writes them.
-- Assumes nothing.
use Rattle.std.proofs.Common.{◌≡◌, suc, ◌+◌, ◌*◌, length, arith}
use Rattle.version_record.specs.Record.{layout}
use Rattle.version_record.proofs.Laws.{sized}
use Rattle.version_list.specs.List.{Entries, entries_from, flat}
use Rattle.version_list.proofs.Laws.{entries_total, few, product, same_rows, all_rows, rows_room, counted_full, counted_done}
use Rattle.version_list.proofs.list_in.Goals as goal

pub overflow_mul-entries : goal.overflow_mul-entries
overflow_mul-entries c =
    let w : Entries = entries_from c.args.kind c.args.big c.args.section.now c.args.stated c.args.at in
    let k : c.entries-entries.result ≡ length w.rows = entries_total w c.measure-count.ensures c.entries-entries.ensures in
    let b = few c.args.kind c.args.big c.args.section.now c.args.stated c.args.at in
    let q = product c.entries-entries.result (c.fields_of-columns.result + 1) (omega (arith, k, c.requires.1))
    (omega (arith, c.fields_of-columns.ensures, sized c.args.kind)) in
    omega arith

pub returns-then-out-entries : goal.returns-then-out-entries
returns-then-out-entries c =
    let w : Entries = entries_from c.args.kind c.args.big c.args.section.now c.args.stated c.args.at in
    let k : c.entries-entries.result ≡ length w.rows = entries_total w c.measure-count.ensures c.entries-entries.ensures in
    let e : c.entries-entries.result * (c.fields_of-columns.result + 1) ≡ length (flat w.rows) = rows_room c.args.kind c.args.big
    c.args.section.now c.args.stated c.args.at _ _ k c.fields_of-columns.ensures in
    counted_full w _ (omega (arith, e, c.if-out-entries.true)) c.into.ensures

pub fill-requires : goal.fill-requires
fill-requires c =
    let w : Entries = entries_from c.args.kind c.args.big c.args.section.now c.args.stated c.args.at in
    let k : c.entries-entries.result ≡ length w.rows = entries_total w c.measure-count.ensures c.entries-entries.ensures in
    let m : c.fields_of-columns.result + 1 ≡ suc (length (layout c.args.kind)) = omega (arith, c.fields_of-columns.ensures) in
    (c.requires.0, all_rows c.args.kind c.args.big c.args.section.now c.args.stated c.args.at k, rw m at c.if-out-entries.false)

pub returns : goal.returns
returns c =
    let w : Entries = entries_from c.args.kind c.args.big c.args.section.now c.args.stated c.args.at in
    let k : c.entries-entries.result ≡ length w.rows = entries_total w c.measure-count.ensures c.entries-entries.ensures in
    let e : c.entries-entries.result * (c.fields_of-columns.result + 1) ≡ length (flat w.rows) = rows_room c.args.kind c.args.big
    c.args.section.now c.args.stated c.args.at _ _ k c.fields_of-columns.ensures in
    let r = same_rows c.args.kind c.args.big c.args.section.now c.args.stated c.args.at k in
    counted_done w _ (omega (arith, e, c.if-out-entries.false)) c.measure-count.ensures (rw r at c.fill.ensures.1)
