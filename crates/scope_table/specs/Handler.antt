-- The scope table of an unwind info: that in the data of its exception handler, which runs to the end of the file.
-- Assumes nothing.
use Rattle.scope_table.specs.declared.ScopeTableEntry.{ScopeTableEntry}
use Rattle.std.specs.Prelude.{Result, Ok, Err, ℕ, List}
use Rattle.answer.specs.Answer.{on_ok, refuse_of, not_found}
use Rattle.answer.specs.declared.Refusal.{Refusal}
use Rattle.unwind_info.specs.Unwind.{read_info_of}
use Rattle.unwind_info.specs.declared.HandlerKind.{HandlerKind}
use Rattle.unwind_info.specs.declared.HandlerKind.TheVariants.{Exception, Termination}
use Rattle.unwind_info.specs.declared.Follows.{Follows}
use Rattle.unwind_info.specs.declared.Follows.TheVariants.{Nothing, Chained, Handler}
use Rattle.scope_table.specs.Scope.{count_from, entry_from}

-- where the scope table of an info starts in the file, or why it has none. 13.2: only the data of an exception handler is a scope table ..
abbrev pub table_of_kind : HandlerKind → ℕ → Result ℕ Refusal
table_of_kind Exception start = Ok start
table_of_kind Termination start = Err (refuse_of not_found)

-- 13.2: .. and an info that nothing follows, or a chained record, has none
abbrev pub table_of : Follows → Result ℕ Refusal
table_of Nothing = Err (refuse_of not_found)
table_of (Chained e) = Err (refuse_of not_found)
table_of (Handler h) = table_of_kind h.kind h.start

-- 13.7: the info at `at` is read, then its handler is judged
unfoldable pub table_at : List ℕ → ℕ → Result ℕ Refusal
table_at s at = on_ok (read_info_of s at) Err (λ i. table_of i.follows)

-- 13.7: the number of entries of the table of the info at `at`
unfoldable pub count_at_of : List ℕ → ℕ → Result ℕ Refusal
count_at_of s at = on_ok (table_at s at) Err (λ start. count_from s start)

-- 13.7: the entry at an index of the table of the info at `at`
unfoldable pub entry_at_of : List ℕ → ℕ → ℕ → Result ScopeTableEntry Refusal
entry_at_of s at index = on_ok (table_at s at) Err (λ start. entry_from s start index)
