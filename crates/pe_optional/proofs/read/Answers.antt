-- `pe_optional::read` meets its contract: the number that was read, and the form that it names, tell how `read_of` goes on.
-- Assumes nothing.
use Rattle.std.proofs.Common.{◌≡◌, sym, ◌∙◌, false, Err, rules}
use Rattle.fields.proofs.Laws.{found, missed}
use Rattle.pe_optional.proofs.Laws.{optional_missed, optional_named, optional_unnamed}
use Rattle.pe_optional.proofs.read.Goals as goal

pub returns-in_err-number : goal.returns-in_err-number
returns-in_err-number c =
    let k : c.from_residual.result ≡ Err c.in_err-number.field-0.0 = search rules in
    k ∙ optional_missed _ _ _ (missed false 2 _ _ c.read.ensures c.in_err-number.was)

pub returns-in_err-magic : goal.returns-in_err-magic
returns-in_err-magic c =
    let f = found false 2 _ _ c.read.ensures c.in_ok-number.was in
    let k : c.from_residual-in_err-magic.result ≡ Err c.in_err-magic.field-0.0 = search rules in
    k ∙ optional_unnamed _ _ _ f.inside f.value (sym c.in_err-magic.was ∙ c.try_from.ensures)

pub returns : goal.returns
returns c =
    let f = found false 2 _ _ c.read.ensures c.in_ok-number.was in
    optional_named _ _ _ f.inside f.value (sym c.in_ok-magic.was ∙ c.try_from.ensures) c.read_fields.ensures
