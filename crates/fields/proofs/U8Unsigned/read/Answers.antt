-- One byte is the same number in either order; a byte that is missing refuses as the field does.
-- Assumes nothing.
use Rattle.std.proofs.Common.{◌≡◌, Err, rules, sym, arith}
use Rattle.fields.proofs.Number.{number_one}
use Rattle.fields.proofs.Laws.{part_length, part_number, part_none}
use Rattle.fields.proofs.U8Unsigned.read.Goals as goal

pub returns-in_err-byte : goal.returns-in_err-byte
returns-in_err-byte c =
    let k : c.from_residual.result ≡ Err c.in_err-byte.field-0.0 = search rules in
    part_none 1 _ _ c.bytes_at.ensures c.args._big c.in_err-byte.was k

pub returns : goal.returns
returns c =
    let l = part_length 1 _ _ c.bytes_at.ensures c.in_ok-byte.was in
    part_number 1 _ _ c.bytes_at.ensures _ c.in_ok-byte.was (sym (number_one _ _ 0 (omega (arith, l))))
