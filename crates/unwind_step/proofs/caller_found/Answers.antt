-- `unwind_step::caller_found` meets its contract: the loop undoes the codes as the cursor comes to them.
-- Assumes nothing.
use Rattle.std.proofs.Common.{◌≡◌, sym, ap, ◌∙◌, Ok, Err, arith, rules}
use Rattle.unwind_chain.proofs.Walk.{code_smaller, info_smaller}
use Rattle.unwind_step.proofs.Laws.{starts_here, all_found, code_on, code_caller, code_lost, info_on, end_last, start_never, found_refused}
use Rattle.unwind_step.proofs.caller_found.Goals as goal

pub returns-in_err-count_all_codes : goal.returns-in_err-count_all_codes
returns-in_err-count_all_codes c =
    let a = c.args in
    let k : c.from_residual.result ≡ Err c.in_err-count_all_codes.field-0.0 = search rules in
    found_refused a.file.now a.sections a.function a.state a.window.words.now a.window.base a.address
    (sym c.in_err-count_all_codes.was ∙ c.count_all_codes.ensures) k

pub returns-in_err-start : goal.returns-in_err-start
returns-in_err-start c =
    let a = c.args in
    absurd (start_never a.file.now a.sections a.function (sym c.in_ok-count_all_codes.was ∙ c.count_all_codes.ensures)
    (sym c.in_err-start.was ∙ c.start_chain.ensures))

pub loop-taken-init : goal.loop-taken-init
loop-taken-init c =
    let a = c.args in
    starts_here a.file.now a.sections a.function (sym c.in_ok-count_all_codes.was ∙ c.count_all_codes.ensures)
    (sym c.in_ok-start.was ∙ c.start_chain.ensures) a.state a.window.words.now a.window.base a.address

pub returns-in_err-next-in-Code : goal.returns-in_err-next-in-Code
returns-in_err-next-in-Code c =
    let a = c.args in
    let l = c.loop-taken in
    let k : c.from_residual-in_err-next-in-Code.result ≡ Err c.in_err-next-in-Code.field-0.0 = search rules in
    let counted = sym c.in_ok-count_all_codes.was ∙ c.count_all_codes.ensures in
    let began = sym c.in_ok-start.was ∙ c.start_chain.ensures in
    code_lost a.file.now a.sections a.state a.window.words.now a.window.base _ a.address _ l.cursor l.here l.invariant
    (sym (c.in_ok-taken.was ∙ ap Ok c.in-Code.is) ∙ c.next_chain_code.ensures) c.undo_code-undone.ensures c.reached.ensures
    c.in_err-next-in-Code.was k
    ∙ all_found a.file.now a.sections a.function counted began a.state a.window.words.now a.window.base a.address l.cursor l.here l.invariant

pub returns-in-Caller : goal.returns-in-Caller
returns-in-Caller c =
    let a = c.args in
    let l = c.loop-taken in
    let counted = sym c.in_ok-count_all_codes.was ∙ c.count_all_codes.ensures in
    let began = sym c.in_ok-start.was ∙ c.start_chain.ensures in
    code_caller a.file.now a.sections a.state a.window.words.now a.window.base _ a.address _ l.cursor l.here l.invariant
    (sym (c.in_ok-taken.was ∙ ap Ok c.in-Code.is) ∙ c.next_chain_code.ensures) c.undo_code-undone.ensures c.reached.ensures
    (c.in_ok-next-in-Code.was ∙ ap Ok c.in-Caller.is)
    ∙ all_found a.file.now a.sections a.function counted began a.state a.window.words.now a.window.base a.address l.cursor l.here l.invariant

pub loop-taken-smaller-in-Code : goal.loop-taken-smaller-in-Code
loop-taken-smaller-in-Code c =
    let a = c.args in
    code_smaller a.file.now a.sections c.loop-taken.cursor
    (sym (c.in_ok-taken.was ∙ ap Ok c.in-Code.is) ∙ c.next_chain_code.ensures)

pub loop-taken-preserved-in-Code : goal.loop-taken-preserved-in-Code
loop-taken-preserved-in-Code c =
    let a = c.args in
    let l = c.loop-taken in
    code_on a.file.now a.sections a.state a.window.words.now a.window.base _ a.address _ l.cursor l.here l.invariant
    (sym (c.in_ok-taken.was ∙ ap Ok c.in-Code.is) ∙ c.next_chain_code.ensures)
    c.undo_code-undone.ensures c.reached.ensures (c.in_ok-next-in-Code.was ∙ ap Ok c.in-On.is)

pub loop-taken-smaller : goal.loop-taken-smaller
loop-taken-smaller c =
    let a = c.args in
    info_smaller a.file.now a.sections c.loop-taken.cursor
    (sym (c.in_ok-taken.was ∙ ap Ok c.in-Info.is) ∙ c.next_chain_code.ensures) (omega arith)

pub loop-taken-preserved : goal.loop-taken-preserved
loop-taken-preserved c =
    let a = c.args in
    let l = c.loop-taken in
    info_on a.file.now a.sections a.state a.window.words.now a.window.base _ a.address _ l.cursor l.here l.invariant
    (sym (c.in_ok-taken.was ∙ ap Ok c.in-Info.is) ∙ c.next_chain_code.ensures)

pub returns-in-End : goal.returns-in-End
returns-in-End c =
    let a = c.args in
    let l = c.loop-taken in
    let counted = sym c.in_ok-count_all_codes.was ∙ c.count_all_codes.ensures in
    let began = sym c.in_ok-start.was ∙ c.start_chain.ensures in
    end_last a.file.now a.sections a.state a.window.words.now a.window.base _ a.address _ l.cursor l.here l.invariant
    (sym (c.in_ok-taken.was ∙ ap Ok c.in-End.is) ∙ c.next_chain_code.ensures) c.last_step.ensures c.ended.ensures
    ∙ all_found a.file.now a.sections a.function counted began a.state a.window.words.now a.window.base a.address l.cursor l.here l.invariant
