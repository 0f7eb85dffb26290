-- `pe_section::SectionTable::name_bytes` meets its contract: the library's bytes of a number, the least significant first, are the definition's.
-- Assumes nothing.
use Rattle.std.proofs.Common.{◌∙◌}
use Rattle.fields.proofs.Bytes.{to_le_8}
use Rattle.pe_section.proofs.SectionTable.name_bytes.Goals as goal

pub returns : goal.returns
returns c = c.to_le_bytes.ensures ∙ to_le_8 c.args.self.name
