-- What each answer of this crate stands for, and how many numbers that is.
-- Assumes nothing.
use Rattle.std.specs.Prelude.{Result, ℕ, List, [], ◌∷◌}
use Rattle.answer.specs.Answer.{Answer, answer_of}
use Rattle.answer.specs.declared.Refusal.{Refusal}
use Rattle.scope_table.specs.declared.ScopeTableEntry.{ScopeTableEntry}

-- the entry, as the numbers of its fields
abbrev pub numbers_of : ScopeTableEntry → List ℕ
numbers_of e = e.begin ∷ e.end ∷ e.handler ∷ e.target ∷ []

abbrev pub answer_read_scope_table_entry : Result ScopeTableEntry Refusal → Answer
answer_read_scope_table_entry = answer_of numbers_of

abbrev pub count_read_scope_table_entry : ℕ
count_read_scope_table_entry = 4

abbrev pub answer_count_scopes : Result ℕ Refusal → Answer
answer_count_scopes = answer_of (λ n. n ∷ [])

abbrev pub count_count_scopes : ℕ
count_count_scopes = 1
