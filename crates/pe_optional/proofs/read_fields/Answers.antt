-- `pe_optional::read_fields` meets its contract: what each needed field answers tells how the definition goes on.
-- Assumes nothing.
use Rattle.std.proofs.Common.{◌≡◌, refl, ◌∙◌, Err, le-leb, rules}
use Rattle.std.proofs.lemmas.Bool.{lt-leb}
use Rattle.answer.proofs.Laws.{must_on, must_off}
use Rattle.pe_optional.specs.Optional.{fields_at}
use Rattle.pe_optional.proofs.Laws.{needed_on, needed_stop}
use Rattle.pe_optional.proofs.read_fields.Goals as goal

pub returns-then-size-lt2 : goal.returns-then-size-lt2
unfolding fields_at
returns-then-size-lt2 c = must_off Err _ _ _ (lt-leb _ _ c.if-size-lt2.true) c.into.ensures

pub returns-in_err-file_alignment : goal.returns-in_err-file_alignment
unfolding fields_at
returns-in_err-file_alignment c =
    let k : c.from_residual.result ≡ Err c.in_err-file_alignment.field-0.0 = search rules in
    k
    ∙ must_on Err _ _ _ (le-leb _ _ c.if-size-lt2.false)
    (needed_stop Err _ _ _ _ _ c.read_needed.ensures c.in_err-file_alignment.was)

pub returns-in_err-number_of_directories : goal.returns-in_err-number_of_directories
unfolding fields_at
returns-in_err-number_of_directories c =
    let k : c.from_residual-in_err-number_of_directories.result ≡ Err c.in_err-number_of_directories.field-0.0 = search rules in
    k
    ∙ must_on Err _ _ _ (le-leb _ _ c.if-size-lt2.false)
    (needed_on Err _ _ _ _ _ c.read_needed.ensures c.in_ok-file_alignment.was
    (needed_stop Err _ _ _ _ _ (rw c.count_at.ensures at c.read_needed-2.ensures) c.in_err-number_of_directories.was))

pub returns-then-number_of_directories-le-EXCEPTION_INDEX : goal.returns-then-number_of_directories-le-EXCEPTION_INDEX
unfolding fields_at
returns-then-number_of_directories-le-EXCEPTION_INDEX c =
    must_on Err _ _ _ (le-leb _ _ c.if-size-lt2.false)
    (needed_on Err _ _ _ _ _ c.read_needed.ensures c.in_ok-file_alignment.was
    (needed_on Err _ _ _ _ _ (rw c.count_at.ensures at c.read_needed-2.ensures) c.in_ok-number_of_directories.was
    (rw (le-leb _ _ c.if-number_of_directories-le-EXCEPTION_INDEX.true) refl)))

pub returns-in_err-virtual_address : goal.returns-in_err-virtual_address
unfolding fields_at
returns-in_err-virtual_address c =
    let k : c.from_residual-in_err-virtual_address.result ≡ Err c.in_err-virtual_address.field-0.0 = search rules in
    k
    ∙ must_on Err _ _ _ (le-leb _ _ c.if-size-lt2.false)
    (needed_on Err _ _ _ _ _ c.read_needed.ensures c.in_ok-file_alignment.was
    (needed_on Err _ _ _ _ _ (rw c.count_at.ensures at c.read_needed-2.ensures) c.in_ok-number_of_directories.was
    (rw (lt-leb _ _ c.if-number_of_directories-le-EXCEPTION_INDEX.false)
    (needed_stop Err _ _ _ _ _ (rw c.exception_at.ensures at c.read_needed-3.ensures) c.in_err-virtual_address.was))))

pub returns-in_err-length : goal.returns-in_err-length
unfolding fields_at
returns-in_err-length c =
    let k : c.from_residual-in_err-length.result ≡ Err c.in_err-length.field-0.0 = search rules in
    k
    ∙ must_on Err _ _ _ (le-leb _ _ c.if-size-lt2.false)
    (needed_on Err _ _ _ _ _ c.read_needed.ensures c.in_ok-file_alignment.was
    (needed_on Err _ _ _ _ _ (rw c.count_at.ensures at c.read_needed-2.ensures) c.in_ok-number_of_directories.was
    (rw (lt-leb _ _ c.if-number_of_directories-le-EXCEPTION_INDEX.false)
    (needed_on Err _ _ _ _ _ (rw c.exception_at.ensures at c.read_needed-3.ensures) c.in_ok-virtual_address.was
    (needed_stop Err _ _ _ _ _ (rw c.exception_at-2.ensures at c.read_needed-4.ensures) c.in_err-length.was)))))

pub returns : goal.returns
unfolding fields_at
returns c =
    must_on Err _ _ _ (le-leb _ _ c.if-size-lt2.false)
    (needed_on Err _ _ _ _ _ c.read_needed.ensures c.in_ok-file_alignment.was
    (needed_on Err _ _ _ _ _ (rw c.count_at.ensures at c.read_needed-2.ensures) c.in_ok-number_of_directories.was
    (rw (lt-leb _ _ c.if-number_of_directories-le-EXCEPTION_INDEX.false)
    (needed_on Err _ _ _ _ _ (rw c.exception_at.ensures at c.read_needed-3.ensures) c.in_ok-virtual_address.was
    (needed_on Err _ _ _ _ _ (rw c.exception_at-2.ensures at c.read_needed-4.ensures) c.in_ok-length.was refl)))))
