-- `unwind_step::caller` meets its contract: the lookup decides between a leaf, a refusal and a chain.
-- Assumes nothing.
use Rattle.unwind_step.proofs.Laws.{step_holder, step_leaf, step_refused}
use Rattle.unwind_step.proofs.caller.Goals as goal

pub returns-in-Ok : goal.returns-in-Ok
returns-in-Ok c =
    let a = c.args in
    step_holder a.file.now a.opened a.state a.window.words.now a.window.base a.address _ c.find_function.ensures.0 c.in-Ok.is c.caller_found.ensures

pub returns-in-NotFound : goal.returns-in-NotFound
returns-in-NotFound c =
    let a = c.args in
    step_leaf a.file.now a.opened a.state a.window.words.now a.window.base a.address _ c.find_function.ensures.0 c.in-Err.is c.in-NotFound.is
    c.last_step.ensures c.ended.ensures

pub returns-in_default : goal.returns-in_default
returns-in_default c =
    let a = c.args in
    step_refused a.file.now a.opened a.state a.window.words.now a.window.base a.address _ c.find_function.ensures.0 c.in-Err.is c.in_default.not-NotFound
