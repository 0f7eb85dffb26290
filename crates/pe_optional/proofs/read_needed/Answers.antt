-- `pe_optional::read_needed` meets its contract: the read of the field tells which case it is, and the stated size the rest.
-- Assumes nothing.
use Rattle.std.proofs.Common.{◌≡◌, ◌+◌, sym, ap, ◌∙◌, false, Ok, Err, arith, rules}
use Rattle.fields.proofs.Laws.{found, missed}
use Rattle.pe_optional.proofs.Laws.{needed_missed, needed_past, needed_outside, needed_value}
use Rattle.pe_optional.proofs.read_needed.Goals as goal

pub returns-in_default : goal.returns-in_default
returns-in_default c = needed_past Err _ _ _ _ Ok (omega arith) (omega arith) c.beyond.ensures

pub returns-in_err-field : goal.returns-in_err-field
returns-in_err-field c =
    let e : c.in-Some.place ≡ c.args.at + c.args.offset = search rules in
    let m = missed false 4 _ _ c.read.ensures c.in_err-field.was in
    let k : c.from_residual.result ≡ Err c.in_err-field.field-0.0 = search rules in
    k ∙ needed_missed Err _ _ _ _ Ok (rw e at m)

pub returns-then-fits : goal.returns-then-fits
returns-then-fits c =
    let e : c.in-Some.place ≡ c.args.at + c.args.offset = search rules in
    let f = found false 4 _ _ c.read.ensures c.in_ok-field.was in
    needed_value Err _ _ _ _ Ok (omega arith) (sym c.fits.ensures ∙ c.if-fits.true) (ap Ok (rw e at f.value))

pub returns : goal.returns
returns c =
    let e : c.in-Some.place ≡ c.args.at + c.args.offset = search rules in
    let f = found false 4 _ _ c.read.ensures c.in_ok-field.was in
    needed_outside Err _ _ _ _ Ok (omega arith) (sym c.fits.ensures ∙ c.if-fits.false) c.into.ensures
