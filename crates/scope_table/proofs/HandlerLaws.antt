-- The laws of the scope table of an unwind info: what the proofs of this crate cite.
-- Assumes nothing.
use Rattle.scope_table.specs.declared.ScopeTableEntry.{ScopeTableEntry}
use Rattle.std.specs.Prelude.{Result, Ok, Err, ℕ}
use mathlib.Core.Path.{◌≡◌, ap, ◌∙◌}
use mathlib.Core.List.{List}
use Prim.Native.Nat.{ℕ}
use Rattle.answer.specs.Answer.{refuse_of, not_found}
use Rattle.answer.specs.declared.Refusal.{Refusal}
use Rattle.runtime_function.specs.declared.RuntimeFunction.{RuntimeFunction}
use Rattle.unwind_info.specs.Unwind.{read_info_of}
use Rattle.unwind_info.specs.declared.UnwindHandler.{UnwindHandler}
use Rattle.unwind_info.specs.declared.UnwindInfo.{UnwindInfo}
use Rattle.unwind_info.specs.declared.HandlerKind.{HandlerKind}
use Rattle.unwind_info.specs.declared.HandlerKind.TheVariants.{Exception, Termination}
use Rattle.unwind_info.specs.declared.Follows.{Follows}
use Rattle.unwind_info.specs.declared.Follows.TheVariants.{Nothing, Chained, Handler}
use Rattle.scope_table.specs.Scope.{count_from, entry_from}
use Rattle.scope_table.specs.Handler.{table_of_kind, table_of, table_at, count_at_of, entry_at_of}

-- where the table of an info is, a law for each case of what follows its codes
module _ (s : List ℕ) (at : ℕ) {r : Result UnwindInfo Refusal} (e : r ≡ read_info_of s at) where
  pub table_refused : {k : Refusal} → r ≡ Err k → Err k ≡ table_at s at
  unfolding table_at
  table_refused f = rw (← e, f)

  module _ {i : UnwindInfo} (f : r ≡ Ok i) where
    by_follows : {g : Follows} → i.follows ≡ g → table_of g ≡ table_at s at
    unfolding table_at
    by_follows d = rw (← e, f, ← d)

    pub table_nothing : {q : Refusal} → i.follows ≡ Nothing → q ≡ refuse_of not_found → Err q ≡ table_at s at
    table_nothing d h = ap Err h ∙ by_follows d

    pub table_chained : {x : RuntimeFunction} {q : Refusal} → i.follows ≡ Chained x → q ≡ refuse_of not_found → Err q ≡ table_at s at
    table_chained d h = ap Err h ∙ by_follows d

    module _ {h : UnwindHandler} (d : i.follows ≡ Handler h) where
      by_kind : {k : HandlerKind} → h.kind ≡ k → table_of_kind k h.start ≡ table_at s at
      by_kind g = rw (← g) (by_follows d)

      pub table_exception : h.kind ≡ Exception → Ok h.start ≡ table_at s at
      table_exception g = by_kind g

      pub table_termination : {q : Refusal} → h.kind ≡ Termination → q ≡ refuse_of not_found → Err q ≡ table_at s at
      table_termination g z = ap Err z ∙ by_kind g

module _ (s : List ℕ) (at : ℕ) {r : Result ℕ Refusal} (e : r ≡ table_at s at) where
  pub count_refused : {k : Refusal} → r ≡ Err k → Err k ≡ count_at_of s at
  unfolding count_at_of
  count_refused f = rw (← e, f)

  pub entry_refused : (index : ℕ) {k : Refusal} → r ≡ Err k → Err k ≡ entry_at_of s at index
  unfolding entry_at_of
  entry_refused index f = rw (← e, f)

  module _ {start : ℕ} (f : r ≡ Ok start) where
    pub count_there : {x : Result ℕ Refusal} → x ≡ count_from s start → x ≡ count_at_of s at
    unfolding count_at_of
    count_there d = rw (← e, f) d

    pub entry_there : (index : ℕ) {x : Result ScopeTableEntry Refusal} → x ≡ entry_from s start index → x ≡ entry_at_of s at index
    unfolding entry_at_of
    entry_there index d = rw (← e, f) d
