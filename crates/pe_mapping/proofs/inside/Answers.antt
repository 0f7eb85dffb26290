-- `pe_mapping::inside` meets its contract: where the address is not below the section, its distance decides.
-- Assumes nothing.
use Rattle.std.proofs.Common.{◌∙◌, arith}
use Rattle.std.proofs.lemmas.Bool.{lt-leb}
use Rattle.pe_mapping.proofs.Laws.{holds_below, holds_by}
use Rattle.pe_mapping.proofs.inside.Goals as goal

pub returns-then-start-address : goal.returns-then-start-address
returns-then-start-address c = rw c.from-start.ensures (holds_by _ _ _ (omega arith) c.readable.ensures)

pub returns-else-start-address : goal.returns-else-start-address
returns-else-start-address c = lt-leb _ _ c.if-start-address.false ∙ holds_below _ _ _ (omega arith)
