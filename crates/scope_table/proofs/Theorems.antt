-- What is proved of scope tables, for every input.
-- Assumes nothing.
use Rattle.std.specs.Prelude.{Result, Ok, Err, ℕ, List, ◌≡◌}
use mathlib.Core.Path.{◌≡◌, refl, sym, ap, ◌∙◌}
use mathlib.Core.List.{List, [], ◌∷◌, ◌++◌}
use mathlib.Core.Bool.{false}
use mathlib.Core.Logic.{⊎_elim}
use Prim.Native.Nat.{ℕ, ◌+◌, ◌*◌, ◌≤◌, ◌<◌}
use native.Mathlib.Omega.{arith}
use lib.Dec.{T}
use lib.ListN.{length, take, drop, length-drop}
use lib.Seq.{drop-drop}
use Rattle.answer.specs.Answer.{cut_of, refuse_of, not_found, values}
use Rattle.answer.specs.declared.Refusal.{Refusal}
use Rattle.answer.proofs.Unique.{same, same_both}
use Rattle.fields.specs.Number.{number_at, Bytes}
use Rattle.fields.specs.Field.{write_of}
use Rattle.fields.proofs.Laws.{le_or_lt, ok_not_err}
use Rattle.cursor.proofs.Laws.{Took}
use Rattle.layout.specs.Layout.{placed, numbers_at, write_by, Fits}
use Rattle.layout.proofs.Laws.{read_full}
use Rattle.layout.proofs.Theorems.{read_written, written_again}
use Rattle.unwind_info.specs.Unwind.{read_info_of}
use Rattle.unwind_info.specs.declared.UnwindHandler.{UnwindHandler}
use Rattle.unwind_info.specs.declared.UnwindInfo.{UnwindInfo}
use Rattle.unwind_info.specs.declared.HandlerKind.TheVariants.{Exception, Termination}
use Rattle.unwind_info.specs.declared.Follows.TheVariants.{Nothing, Chained, Handler}
use Rattle.runtime_function.specs.declared.RuntimeFunction.{RuntimeFunction}
use Rattle.scope_table.specs.Scope.{fields, scope_table_entry, entry_of, read_of, write_out, count_from, entry_from, count_in_of, entry_in_of}
use Rattle.scope_table.specs.Answers.{numbers_of, answer_read_scope_table_entry, count_read_scope_table_entry, answer_count_scopes, count_count_scopes}
use Rattle.scope_table.specs.Handler.{count_at_of, entry_at_of}
use Rattle.scope_table.specs.declared.ScopeTableEntry.{ScopeTableEntry}
use Rattle.scope_table.proofs.Laws.{count_fits, count_contradicts, count_told, entry_refused, entry_none, entry_there}
use Rattle.scope_table.proofs.HandlerLaws as handler

-- Each field of the entry is where the one before it ends.
pub fields_placed : T (placed 0 fields)
fields_placed = tt

-- An entry that was written is read again, whatever precedes and follows it.
pub found_written : (e : ScopeTableEntry) (p q : List ℕ) → Fits scope_table_entry (numbers_of e)
    → read_of (p ++ write_by false scope_table_entry (numbers_of e) ++ q) (length p) ≡ Ok e
unfolding read_of
found_written e p q h = read_written _ _ false scope_table_entry (numbers_of e) p q h

abbrev back : Result ScopeTableEntry Refusal → List ℕ
back (Ok e) = numbers_of e
back (Err k) = []

-- Bytes that were read as an entry are written again.
pub written_found : (s : List ℕ) (at : ℕ) (e : ScopeTableEntry) → Bytes s → Ok e ≡ read_of s at
    → write_by false scope_table_entry (numbers_of e) ≡ take 16 (drop at s)
unfolding read_of numbers_at
written_found s at e b h =
    written_again (λ ns. Ok (entry_of ns)) (λ n. Err (cut_of n)) back false scope_table_entry s at b (λ n k. ok_not_err k) refl h

-- Each entry below the count lies wholly in the data: none of them is 1.
pub entry_inside : (s : List ℕ) (start n index : ℕ) → Ok n ≡ count_from s start → index < n
    → Ok (entry_of (numbers_at false scope_table_entry s (start + 4 + 16 * index))) ≡ entry_from s start index
unfolding read_of
entry_inside s start n index e l =
    let p = count_told s start e in
    let i : start + 4 + 16 * index + 16 ≤ length s = omega (arith, p.1) in
    entry_there s start index e refl l
    (read_full false s (λ ns. Ok (entry_of ns)) (λ end. Err (cut_of end)) scope_table_entry (start + 4 + 16 * index) i)

number_dropped : (w at : ℕ) (s : List ℕ) (start : ℕ) → number_at false w (drop start s) at ≡ number_at false w s (start + at)
unfolding number_at
number_dropped w at s start = rw (drop-drop at start s)

numbers_dropped : (ws : List ℕ) (at : ℕ) (s : List ℕ) (start : ℕ) → numbers_at false ws (drop start s) at ≡ numbers_at false ws s (start + at)
unfolding numbers_at
numbers_dropped [] at s start = refl
numbers_dropped (w ∷ ws) at s start =
    let e : start + at + w ≡ start + (at + w) = omega arith in
    rw (number_dropped w at s start, e, numbers_dropped ws (at + w) s start)

-- Where its count is there, a table in a file is the one in its data, lent by itself: it has as many entries ..
module _ (s : List ℕ) (start : ℕ) (i : start + 4 ≤ length s) where
  abbrev number : ℕ
  number = number_at false 4 s start

  here : Took false 4 s start number (start + 4)
  here = record { inside = i; value = refl; past = refl }

  there : Took false 4 (drop start s) 0 number 4
  there =
      let z : start + 0 ≡ start = omega arith in
      record { inside = omega (arith, length-drop start s); value = rw (number_dropped 4 0 s start, z); past = refl }

  pub count_by_itself : count_from s start ≡ count_in_of (drop start s)
  count_by_itself =
      let d = length-drop start s in
      ⊎_elim
      (λ f. sym (count_fits s start refl here (omega arith)) ∙ count_fits (drop start s) 0 refl there (omega (arith, d)))
      (λ f.
      sym (count_contradicts s start refl here (omega arith) refl)
      ∙ count_contradicts (drop start s) 0 refl there (omega (arith, d)) refl)
      (le_or_lt (start + 4 + 16 * number) (length s))

  by_count : (index : ℕ) (r : Result ℕ Refusal) → r ≡ count_from s start → entry_from s start index ≡ entry_in_of (drop start s) index
  by_count index (Err k) e =
      sym (entry_refused s start index e refl) ∙ entry_refused (drop start s) 0 index (e ∙ count_by_itself) refl
  by_count index (Ok n) e =
      ⊎_elim
      (λ h. sym (entry_none s start index e refl h refl) ∙ entry_none (drop start s) 0 index (e ∙ count_by_itself) refl h refl)
      (λ h.
      let a : start + (0 + 4 + 16 * index) ≡ start + 4 + 16 * index = omega arith in
      let b = rw a at (numbers_dropped scope_table_entry (0 + 4 + 16 * index) s start) in
      sym (entry_inside s start n index e h)
      ∙ ap (λ (ns : List ℕ). Ok (entry_of ns)) (sym b)
      ∙ entry_inside (drop start s) 0 n index (e ∙ count_by_itself) h)
      (le_or_lt n index)

  -- .. and the same one at each index.
  pub entry_by_itself : (index : ℕ) → entry_from s start index ≡ entry_in_of (drop start s) index
  entry_by_itself index = by_count index (count_from s start) refl

-- The table of an info with an exception handler is at the start of the handler's data.
pub table_of_exception : (s : List ℕ) (at index : ℕ) (i : UnwindInfo) (h : UnwindHandler) → Ok i ≡ read_info_of s at
    → i.follows ≡ Handler h → h.kind ≡ Exception
    → (count_from s h.start ≡ count_at_of s at) × (entry_from s h.start index ≡ entry_at_of s at index)
table_of_exception s at index i h e f k =
    let t = handler.table_exception s at e refl f k in
    (handler.count_there s at t refl refl, handler.entry_there s at t refl index refl)

-- An info that nothing follows has no scope table, ..
module _ (s : List ℕ) (at index : ℕ) (i : UnwindInfo) (e : Ok i ≡ read_info_of s at) where
  pub none_without_handler : i.follows ≡ Nothing
      → (Err (refuse_of not_found) ≡ count_at_of s at) × (Err (refuse_of not_found) ≡ entry_at_of s at index)
  none_without_handler f =
      let t = handler.table_nothing s at e refl f refl in
      (handler.count_refused s at t refl, handler.entry_refused s at t index refl)

  -- .. nor has one that is chained to a record, ..
  pub none_when_chained : (x : RuntimeFunction) → i.follows ≡ Chained x
      → (Err (refuse_of not_found) ≡ count_at_of s at) × (Err (refuse_of not_found) ≡ entry_at_of s at index)
  none_when_chained x f =
      let t = handler.table_chained s at e refl f refl in
      (handler.count_refused s at t refl, handler.entry_refused s at t index refl)

  -- .. nor has one with a termination handler.
  pub none_at_termination : (h : UnwindHandler) → i.follows ≡ Handler h → h.kind ≡ Termination
      → (Err (refuse_of not_found) ≡ count_at_of s at) × (Err (refuse_of not_found) ≡ entry_at_of s at index)
  none_at_termination h f k =
      let t = handler.table_termination s at e refl f k refl in
      (handler.count_refused s at t refl, handler.entry_refused s at t index refl)

-- Two answers that meet a promise of this crate are equal.
pub read_unique : (s : List ℕ) (at : ℕ) {r q : Result ScopeTableEntry Refusal} → r ≡ read_of s at → q ≡ read_of s at → r ≡ q
read_unique s at = same

pub write_unique : (o : List ℕ) (at : ℕ) (e : ScopeTableEntry) {r q : Result Unit Refusal} {l k : List ℕ}
    → (r ≡ write_of 16 o at) × (l ≡ write_out o at e) → (q ≡ write_of 16 o at) × (k ≡ write_out o at e) → (r ≡ q) × (l ≡ k)
write_unique o at e = same_both

pub count_in_unique : (s : List ℕ) {r q : Result ℕ Refusal} → r ≡ count_in_of s → q ≡ count_in_of s → r ≡ q
count_in_unique s = same

pub entry_in_unique : (s : List ℕ) (index : ℕ) {r q : Result ScopeTableEntry Refusal} → r ≡ entry_in_of s index → q ≡ entry_in_of s index → r ≡ q
entry_in_unique s index = same

pub count_at_unique : (s : List ℕ) (at : ℕ) {r q : Result ℕ Refusal} → r ≡ count_at_of s at → q ≡ count_at_of s at → r ≡ q
count_at_unique s at = same

pub entry_at_unique : (s : List ℕ) (at index : ℕ) {r q : Result ScopeTableEntry Refusal} → r ≡ entry_at_of s at index → q ≡ entry_at_of s at index
    → r ≡ q
entry_at_unique s at index = same

-- Each answer has as many numbers as it says, zeros where it is refused.
pub read_count : (a : Result ScopeTableEntry Refusal)
    → length (values count_read_scope_table_entry (answer_read_scope_table_entry a)) ≡ count_read_scope_table_entry
read_count (Ok e) = refl
read_count (Err k) = refl

pub count_count : (a : Result ℕ Refusal) → length (values count_count_scopes (answer_count_scopes a)) ≡ count_count_scopes
count_count (Ok n) = refl
count_count (Err k) = refl

-- The numbers that it stands for are fixed.
pub numbers_unique : (a : ScopeTableEntry) {r q : List ℕ} → r ≡ numbers_of a → q ≡ numbers_of a → r ≡ q
numbers_unique a = same
