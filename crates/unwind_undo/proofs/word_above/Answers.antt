-- `unwind_undo::word_above` meets its contract.
-- Assumes nothing.
use Rattle.std.proofs.Common.{arith}
use Rattle.unwind_undo.proofs.Laws.{word_there, word_beyond}
use Rattle.unwind_undo.proofs.word_above.Goals as goal

pub returns-in_err-address : goal.returns-in_err-address
returns-in_err-address c = word_beyond _ _ _ (omega (arith, c.in_err-address.ensures)) c.from_residual.ensures

pub returns : goal.returns
returns c =
    word_there _ _ _ (omega (arith, c.in_ok-address.ensures)) (omega (arith, c.in_ok-address.ensures)) c.word_at.ensures
