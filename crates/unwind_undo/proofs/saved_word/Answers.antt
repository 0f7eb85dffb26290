-- `unwind_undo::saved_word` meets its contract.
-- Assumes nothing.
use Rattle.std.proofs.Common.{sym, ◌∙◌}
use Rattle.unwind_undo.specs.Code.{saved_of}
use Rattle.unwind_undo.proofs.saved_word.Goals as goal

pub returns-in_err-from : goal.returns-in_err-from
unfolding saved_of
returns-in_err-from c = simp (sym c.base_of.ensures ∙ c.in_err-from.was, c.from_residual.ensures)

pub returns : goal.returns
unfolding saved_of
returns c = simp (sym c.base_of.ensures ∙ c.in_ok-from.was, c.word_above.ensures)
