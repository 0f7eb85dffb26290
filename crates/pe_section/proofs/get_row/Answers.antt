-- `pe_section::get_row` meets its contract: at each `return`, the tests that led there are the premises of a law of `get_row_of`.
-- Assumes nothing.
use Rattle.std.proofs.Common.{◌≡◌, ◌+◌, ◌*◌, arith, rules}
use Rattle.pe_section.proofs.Laws.{row_past, section_long, section_many, section_none, section_row}
use Rattle.pe_section.proofs.get_row.Goals as goal
use Rattle.pe_section.proofs.get_row.Goals.{then-file-gt-FILE_LIMIT-via-then-file-gt-FILE_LIMIT, then-file-gt-FILE_LIMIT-via-else-file-gt-FILE_LIMIT+then-count-gt-LIMIT}

pub returns-then-file-gt-FILE_LIMIT : goal.returns-then-file-gt-FILE_LIMIT
returns-then-file-gt-FILE_LIMIT c =
    elim c.then-file-gt-FILE_LIMIT.branch [
      | then-file-gt-FILE_LIMIT-via-then-file-gt-FILE_LIMIT w ↦ section_long _ _ _ _ w.if-file-gt-FILE_LIMIT.true c.into.ensures
      | then-file-gt-FILE_LIMIT-via-else-file-gt-FILE_LIMIT+then-count-gt-LIMIT w ↦ section_many _ _ _ _ w.if-file-gt-FILE_LIMIT.false
          w.if-count-gt-LIMIT.true c.into.ensures
    ]

pub returns-then-count-index : goal.returns-then-count-index
returns-then-count-index c =
    section_none _ _ _ _ c.if-file-gt-FILE_LIMIT.false c.if-count-gt-LIMIT.false c.if-count-index.true c.into-then-count-index.ensures

pub returns-in_default : goal.returns-in_default
returns-in_default c =
    section_row _ _ _ _ c.if-file-gt-FILE_LIMIT.false c.if-count-gt-LIMIT.false c.if-count-index.false
    (row_past _ _ (omega arith) (omega arith) c.beyond.ensures)

pub returns : goal.returns
returns c =
    let e : c.in-Some.at ≡ c.args.table + 40 * c.args.index = search rules in
    section_row _ _ _ _ c.if-file-gt-FILE_LIMIT.false c.if-count-gt-LIMIT.false c.if-count-index.false (rw e at c.read.ensures)
