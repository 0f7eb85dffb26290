-- `fat::member_at` meets its contract: what opening answered tells the list that it counts, and a member of it is the one at its place.
-- Assumes nothing.
use Rattle.std.proofs.Common.{◌≡◌, refl, sym, ◌∙◌, Err, arith, rules}
use Rattle.fat.proofs.Laws.{found_refused, found_at_lem, found_past}
use Rattle.fat.proofs.member_at.Goals as goal

pub returns-in_err-members : goal.returns-in_err-members
returns-in_err-members c =
    let k : c.from_residual.result ≡ Err c.in_err-members.field-0.0 = search rules in
    k ∙ found_refused _ _ (sym c.in_err-members.was ∙ c.«open».ensures)

pub returns-then-index-members : goal.returns-then-index-members
returns-then-index-members c = found_at_lem _ _ _ (sym c.in_ok-members.was ∙ c.«open».ensures) (omega arith) refl c.read.ensures

pub returns : goal.returns
returns c = found_past _ _ (sym c.in_ok-members.was ∙ c.«open».ensures) (omega arith) c.into.ensures
