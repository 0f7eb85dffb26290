-- In either order the library spells what `Number` does; bytes that are missing refuse as the field does.
-- Assumes nothing.
use Rattle.std.proofs.Common.{◌≡◌, ◌∙◌, Err, rules}
use Rattle.fields.proofs.Bytes.{be_2, le_2}
use Rattle.fields.proofs.Laws.{part_length, part_number, part_none}
use Rattle.fields.proofs.U16Unsigned.read.Goals as goal

pub returns-in_err-bytes : goal.returns-in_err-bytes
returns-in_err-bytes c =
    let k : c.from_residual.result ≡ Err c.in_err-bytes.field-0.0 = search rules in
    part_none 2 _ _ c.bytes_at.ensures c.args.big c.in_err-bytes.was k

pub returns-then-big : goal.returns-then-big
returns-then-big c =
    let l = part_length 2 _ _ c.bytes_at.ensures c.in_ok-bytes.was in
    rw c.if-big.true (part_number 2 _ _ c.bytes_at.ensures _ c.in_ok-bytes.was (c.from_be_bytes.ensures ∙ be_2 _ l))

pub returns-else-big : goal.returns-else-big
returns-else-big c =
    let l = part_length 2 _ _ c.bytes_at.ensures c.in_ok-bytes.was in
    rw c.if-big.false (part_number 2 _ _ c.bytes_at.ensures _ c.in_ok-bytes.was (c.from_le_bytes.ensures ∙ le_2 _ l))
