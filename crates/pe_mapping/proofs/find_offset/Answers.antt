-- `pe_mapping::find_offset` meets its contract: at each `return`, the tests that led there are the premises of a law of `find_offset_of`.
-- Assumes nothing.
use Rattle.std.proofs.Common.{sym, ◌∙◌, arith}
use Rattle.pe_mapping.proofs.Laws.{power_ones, power_positive, offset_long, offset_many, offset_unaligned, offset_first}
use Rattle.pe_mapping.proofs.find_offset.Goals as goal
use Rattle.pe_mapping.proofs.find_offset.Goals.{then-file-gt-FILE_LIMIT-via-then-file-gt-FILE_LIMIT, then-file-gt-FILE_LIMIT-via-else-file-gt-FILE_LIMIT+then-sections-gt-LIMIT}

pub returns-then-file-gt-FILE_LIMIT : goal.returns-then-file-gt-FILE_LIMIT
returns-then-file-gt-FILE_LIMIT c =
    elim c.then-file-gt-FILE_LIMIT.branch [
      | then-file-gt-FILE_LIMIT-via-then-file-gt-FILE_LIMIT w ↦ offset_long _ _ _ w.if-file-gt-FILE_LIMIT.true c.into.ensures
      | then-file-gt-FILE_LIMIT-via-else-file-gt-FILE_LIMIT+then-sections-gt-LIMIT w ↦
          offset_many _ _ _ w.if-file-gt-FILE_LIMIT.false w.if-sections-gt-LIMIT.true c.into.ensures
    ]

pub returns-then-not-is_power_of_two : goal.returns-then-not-is_power_of_two
returns-then-not-is_power_of_two c =
    offset_unaligned _ _ _ c.if-file-gt-FILE_LIMIT.false c.if-sections-gt-LIMIT.false
    (sym (power_ones 32 c.args.sections.alignment (omega arith)) ∙ sym c.if-not-is_power_of_two.ensures)
    c.into-then-not-is_power_of_two.ensures

pub first-requires : goal.first-requires
first-requires c =
    power_positive _ 32 (sym (power_ones 32 c.args.sections.alignment (omega arith)) ∙ sym c.if-not-is_power_of_two.ensures)

pub returns : goal.returns
returns c =
    offset_first _ _ _ c.if-file-gt-FILE_LIMIT.false c.if-sections-gt-LIMIT.false
    (sym (power_ones 32 c.args.sections.alignment (omega arith)) ∙ sym c.if-not-is_power_of_two.ensures)
    c.first.ensures
