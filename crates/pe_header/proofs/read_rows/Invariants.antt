-- `pe_header::read_rows` meets its contract. The invariant: what is left of the rows answers as the whole.
-- Assumes nothing.
use Rattle.std.proofs.Common.{◌≡◌, ◌-◌}
use Rattle.pe_header.proofs.Laws.{check_rows}
use Rattle.pe_header.proofs.read_rows.Given as goal

abbrev pub invariant-loop : goal.invariant-loop
invariant-loop l = check_rows l.count l.file l.table ≡ check_rows (l.count - l.counter) l.file l.at
