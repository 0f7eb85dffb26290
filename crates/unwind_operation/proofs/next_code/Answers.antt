-- `unwind_operation::next_code` meets its contract: at each `return`, the tests and the form of the operation are the premises of a law of
-- `next_code_of`.
-- Assumes nothing.
use Rattle.std.proofs.Common.{◌≡◌, sym, ap, ◌∙◌, Result, Some, None, Err, arith, rules}
use Rattle.answer.specs.Answer.{refuse_of, operation}
use Rattle.answer.specs.declared.Reason.{Reason}
use Rattle.unwind_operation.specs.declared.Slots.{Slots}
use Rattle.unwind_operation.proofs.Laws.{code_version, code_passed, code_formed}
use Rattle.unwind_operation.specs.Code.{form_in}
use Rattle.unwind_operation.proofs.next_code.Goals as goal

pub returns-then-not-known_version : goal.returns-then-not-known_version
returns-then-not-known_version c = code_version _ _ _ _ (sym c.known_version.ensures ∙ c.if-not-known_version.true) c.into.ensures

pub returns-then-slots-place : goal.returns-then-slots-place
returns-then-slots-place c =
    code_passed _ _ _ _ (sym c.known_version.ensures ∙ c.if-not-known_version.false) c.if-slots-place.true c.beyond.ensures

pub returns-in-One : goal.returns-in-One
returns-in-One c =
    let known = sym c.known_version.ensures ∙ c.if-not-known_version.false in
    let form = ap (λ f. form_in (Some f)) (sym c.in-One.is) ∙ ap form_in (sym c.in_ok-operation.ensures.ok_part) ∙ c.form_of.ensures in
    code_formed _ _ _ _ known (omega arith) form c.taken.ensures

pub returns-in-Two : goal.returns-in-Two
returns-in-Two c =
    let known = sym c.known_version.ensures ∙ c.if-not-known_version.false in
    let form = ap (λ f. form_in (Some f)) (sym c.in-Two.is) ∙ ap form_in (sym c.in_ok-operation.ensures.ok_part) ∙ c.form_of.ensures in
    code_formed _ _ _ _ known (omega arith) form c.two_slots.ensures

pub returns-in-Three : goal.returns-in-Three
returns-in-Three c =
    let known = sym c.known_version.ensures ∙ c.if-not-known_version.false in
    let form = ap (λ f. form_in (Some f)) (sym c.in-Three.is) ∙ ap form_in (sym c.in_ok-operation.ensures.ok_part) ∙ c.form_of.ensures in
    code_formed _ _ _ _ known (omega arith) form c.three_slots.ensures

pub returns-in_err-operation : goal.returns-in_err-operation
returns-in_err-operation c =
    let known = sym c.known_version.ensures ∙ c.if-not-known_version.false in
    let none : c.form_of.result ≡ None = c.in_err-operation.ensures.ok_part in
    let why : ◌≡◌ {A = Result Slots Reason} (Err c.in_err-operation.field-0.0) (Err operation) = rw none at c.in_err-operation.ensures.value in
    let k : c.from_residual.result ≡ Err (refuse_of operation) = search rules in
    code_formed _ _ _ _ known (omega arith) (ap form_in (sym none) ∙ c.form_of.ensures) k
