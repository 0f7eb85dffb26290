-- `unwind_chain::read_link` meets its contract: where the info is, whether it is whole, and what follows its codes.
-- Assumes nothing.
use Rattle.std.proofs.Common.{◌≡◌, refl, ap, ◌∙◌, Err, rules}
use mathlib.Core.Logic.{⊎_elim}
use Rattle.unwind_chain.specs.Code.{linked_of}
use Rattle.unwind_chain.proofs.Laws.{link_unlocated, linked_refused, linked_there}
use Rattle.unwind_chain.proofs.read_link.Goals as goal

pub returns-in_err-place : goal.returns-in_err-place
returns-in_err-place c =
    let k : c.from_residual.result ≡ Err c.in_err-place.field-0.0 = search rules in
    k ∙ ap linked_of (link_unlocated _ _ _ _ c.locate_info.ensures c.in_err-place.was)

pub returns-in_err-checked : goal.returns-in_err-checked
returns-in_err-checked c =
    let k : c.from_residual-in_err-checked.result ≡ Err c.in_err-checked.field-0.0 = search rules in
    k ∙ linked_refused _ _ _ _ c.locate_info.ensures c.in_ok-place.was c.check_info.ensures c.in_err-checked.was

pub returns-in-Chained : goal.returns-in-Chained
returns-in-Chained c =
    linked_there _ _ _ _ c.locate_info.ensures c.in_ok-place.was c.check_info.ensures c.in_ok-checked.was (rw c.in-Chained.is refl)

pub returns-in-Nothing : goal.returns-in-Nothing
returns-in-Nothing c =
    linked_there _ _ _ _ c.locate_info.ensures c.in_ok-place.was c.check_info.ensures c.in_ok-checked.was
    (⊎_elim (λ e. rw e refl) (λ e. rw e.1 refl) c.in-Nothing.is)
