-- In either order the library writes the bytes that `Number` says.
-- Assumes nothing.
use Rattle.std.proofs.Common.{◌∙◌, true, false}
use Rattle.fields.proofs.Bytes.{to_be_2, to_le_2}
use Rattle.fields.proofs.Laws.{written_as}
use Rattle.fields.proofs.U16Unsigned.write.Goals as goal

pub returns-then-big : goal.returns-then-big
returns-then-big c =
    let a = c.args in
    rw c.if-big.true (written_as true 2 a.self a.out.now a.at (c.to_be_bytes.ensures ∙ to_be_2 a.self) c.put_bytes.ensures)

pub returns-else-big : goal.returns-else-big
returns-else-big c =
    let a = c.args in
    rw c.if-big.false (written_as false 2 a.self a.out.now a.at (c.to_le_bytes.ensures ∙ to_le_2 a.self) c.put_bytes-else-big.ensures)
