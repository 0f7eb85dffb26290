-- One byte is the same in either order.
-- Assumes nothing.
use Rattle.std.proofs.Common.{arith}
use Rattle.fields.proofs.Number.{bytes_one}
use Rattle.fields.proofs.U8Unsigned.write.Goals as goal

pub returns : goal.returns
returns c = rw (bytes_one c.args._big c.args.self (omega arith)) c.put_bytes.ensures
