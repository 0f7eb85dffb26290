-- `pe_header::read_rows` meets its contract: see its invariant.
-- Assumes nothing.
use Rattle.std.proofs.Common.{◌≡◌, sym, ◌∙◌, ◌+◌, ◌-◌, Err, arith, rules}
use Rattle.pe_section.proofs.Laws.{row_whole}
use Rattle.pe_header.proofs.Laws.{rows_none, rows_missed, rows_on}
use Rattle.pe_header.proofs.read_rows.Goals as goal

pub returns-in_err-read : goal.returns-in_err-read
returns-in_err-read c =
    let k : c.from_residual.result ≡ Err c.in_err-read.field-0.0 = search rules in
    k ∙ rows_missed _ _ _ (omega arith) c.read.ensures c.in_err-read.was ∙ sym c.loop.invariant

pub overflow_add-at : goal.overflow_add-at
overflow_add-at c =
    let w = row_whole _ _ c.read.ensures c.in_ok-read.was in
    omega arith

pub loop-preserved : goal.loop-preserved
loop-preserved c =
    let e : c.args.count - (c.loop.counter + 1) ≡ c.args.count - c.loop.counter - 1 = omega arith in
    c.loop.invariant ∙ rw e (rows_on _ _ _ (omega arith) c.read.ensures c.in_ok-read.was)

pub returns : goal.returns
returns c = rows_none _ _ _ (omega arith) ∙ sym c.loop.invariant
