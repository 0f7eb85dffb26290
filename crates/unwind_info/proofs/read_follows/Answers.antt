-- `unwind_info::read_follows` meets its contract: the flags tell what is read.
-- Assumes nothing.
use Rattle.std.proofs.Common.{◌≡◌, ◌∙◌, Err, rules, eq-eqb, ne_eqb}
use Rattle.unwind_info.proofs.Laws.{chained_there, chained_cut, follows_chained, follows_exception, follows_termination, follows_nothing}
use Rattle.unwind_info.proofs.read_follows.Goals as goal

pub returns-in_err-record : goal.returns-in_err-record
returns-in_err-record c =
    let k : c.from_residual.result ≡ Err c.in_err-record.field-0.0 = search rules in
    follows_chained _ _ _ (eq-eqb _ _ c.if-flags-eq1.true) (k ∙ chained_cut _ _ c.read.ensures c.in_err-record.was)

pub returns-in_ok-record : goal.returns-in_ok-record
returns-in_ok-record c = follows_chained _ _ _ (eq-eqb _ _ c.if-flags-eq1.true) (chained_there _ _ c.read.ensures c.in_ok-record.was)

pub returns-then-flags-eq1-2 : goal.returns-then-flags-eq1-2
returns-then-flags-eq1-2 c = follows_exception _ _ _ (ne_eqb _ _ c.if-flags-eq1.false) (eq-eqb _ _ c.if-flags-eq1-2.true) c.handler.ensures

pub returns-then-flags-eq1-3 : goal.returns-then-flags-eq1-3
returns-then-flags-eq1-3 c =
    follows_termination _ _ _ (ne_eqb _ _ c.if-flags-eq1.false) (ne_eqb _ _ c.if-flags-eq1-2.false) (eq-eqb _ _ c.if-flags-eq1-3.true)
    c.handler-then-flags-eq1-3.ensures

pub returns-else-flags-eq1-3 : goal.returns-else-flags-eq1-3
returns-else-flags-eq1-3 c =
    follows_nothing _ _ _ (ne_eqb _ _ c.if-flags-eq1.false) (ne_eqb _ _ c.if-flags-eq1-2.false)
    (ne_eqb _ _ c.if-flags-eq1-3.false)
