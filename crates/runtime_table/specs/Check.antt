-- What checking a table answers.
-- Assumes nothing.
use Rattle.std.specs.Prelude.{Result, Ok, Err, ℕ, List, length}
use Rattle.answer.specs.declared.Refusal.{Refusal}
use Rattle.answer.specs.Answer.{cut_of, order}
use Rattle.answer.specs.Test.{pick, must, in_limit}
use Rattle.runtime_table.specs.Table.{place_of, table_of, lies_of, ordered}

-- 8.13: the table of `count` records at `table`
unfoldable pub check_of : List ℕ → ℕ → ℕ → Result Unit Refusal
check_of s table count =
    -- 3.1: the file's length (3)
    in_limit Err s
    -- 8.7: the table ends in the file, else 1 at its end, before any record is judged
    (pick (lies_of (length s) table count)
    -- 8.8: the records are in order (9)
    (must Err (ordered (table_of s table) count) order (Ok tt))
    (Err (cut_of (place_of table count))))
