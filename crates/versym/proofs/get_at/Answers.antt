-- `versym::get_at` meets its contract: where the section is lent, the entry is one of its bytes.
-- Assumes nothing.
use Rattle.std.proofs.Common.{◌≡◌, Err, rules}
use Rattle.versym.specs.Versym.{get_at_in_of, get_at_of}
use Rattle.versym.proofs.Laws.{lent_on, lent_off}
use Rattle.versym.proofs.get_at.Goals as goal

pub returns-in_err-section : goal.returns-in_err-section
unfolding get_at_of
returns-in_err-section c =
    let k : c.from_residual.result ≡ Err c.in_err-section.field-0.0 = search rules in
    lent_off _ _ _ c.section.ensures _ c.in_err-section.was k

pub returns : goal.returns
unfolding get_at_of
returns c =
    lent_on _ _ _ c.section.ensures (λ s. get_at_in_of c.args.big s c.args.index) c.in_ok-section.was c.get_at_in.ensures
