-- `unwind_step::relative_address` meets its contract: RIP is below the image, or its distance has 32 bits or not.
-- Assumes nothing.
use Rattle.std.proofs.Common.{◌∙◌}
use Rattle.unwind_step.proofs.Laws.{address_below, address_there}
use Rattle.unwind_step.proofs.relative_address.Goals as goal

pub returns-in_err-distance : goal.returns-in_err-distance
returns-in_err-distance c = c.from_residual.ensures ∙ address_below _ _ c.in_err-distance.ensures

pub returns : goal.returns
returns c = c.ok.ensures.value ∙ address_there _ _ _ c.in_ok-distance.ensures.0 c.in_ok-distance.ensures.1 c.try_from.ensures
