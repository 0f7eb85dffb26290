-- `unwind_operation::Register::name` meets its contract: its table is the names in rows, as antt computes, and the rule of such a table
-- does the rest.
-- Assumes nothing.
use mathlib.Core.List.{[], ◌∷◌}
use Rattle.answer.proofs.Table.{row_at_lem, row_past}
use Rattle.unwind_operation.specs.Names.{names, name_of}
use borrow.Author.Rules.{rules}
use Rattle.unwind_operation.proofs.Register.name.Goals as goal

pub returns-then-at-lt-REGISTERS : goal.returns-then-at-lt-REGISTERS
unfolding name_of
returns-then-at-lt-REGISTERS c = row_at_lem 6 "" names ("" ∷ []) c.args.self.0 (search rules)

pub returns-else-at-lt-REGISTERS : goal.returns-else-at-lt-REGISTERS
unfolding name_of
returns-else-at-lt-REGISTERS c = row_past 6 "" names c.args.self.0 (search rules)
