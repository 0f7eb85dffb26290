-- Its table is the texts in rows, as antt computes, and the rule of such a table does the rest. Assumes nothing.
use Rattle.std.proofs.Common.{rules, [], ◌∷◌}
use Rattle.answer.specs.Words.{texts, words_of}
use Rattle.answer.proofs.Table.{row_at_lem, row_past}
use Rattle.answer.proofs.words.Goals as goal

pub returns-then-at-lt-ANSWERS : goal.returns-then-at-lt-ANSWERS
unfolding words_of
returns-then-at-lt-ANSWERS c = row_at_lem 64 "no such answer" texts ("no such answer" ∷ []) c.args.number (search rules)

pub returns-else-at-lt-ANSWERS : goal.returns-else-at-lt-ANSWERS
unfolding words_of
returns-else-at-lt-ANSWERS c = row_past 64 "no such answer" texts c.args.number (search rules)
