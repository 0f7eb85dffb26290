-- `versym::count` meets its contract: where the section is lent, the count is that of its bytes.
-- Assumes nothing.
use Rattle.std.proofs.Common.{◌≡◌, ap, Ok, Err, rules}
use Rattle.versym.specs.Versym.{count_in_of, count_of}
use Rattle.versym.proofs.Laws.{lent_on, lent_off}
use Rattle.versym.proofs.count.Goals as goal

pub returns-in_err-section : goal.returns-in_err-section
unfolding count_of
returns-in_err-section c =
    let k : c.from_residual.result ≡ Err c.in_err-section.field-0.0 = search rules in
    lent_off _ _ _ c.section.ensures _ c.in_err-section.was k

pub returns : goal.returns
unfolding count_of
returns c = lent_on _ _ _ c.section.ensures (λ s. Ok (count_in_of s)) c.in_ok-section.was (ap Ok c.count_in.ensures)
