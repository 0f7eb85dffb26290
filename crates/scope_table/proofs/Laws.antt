-- The laws of a scope table, one for each outcome of a check: what proofs of readers cite.
-- Assumes nothing.
use Rattle.scope_table.specs.declared.ScopeTableEntry.{ScopeTableEntry}
use Rattle.std.specs.Prelude.{Result, Ok, Err, ℕ}
use mathlib.Core.Path.{◌≡◌, refl, sym, ◌∙◌}
use mathlib.Core.List.{List}
use mathlib.Core.Bool.{Bool, true, false}
use mathlib.Core.Logic.{⊎_elim}
use Prim.Native.Nat.{ℕ, ◌+◌, ◌-◌, ◌*◌, ◌/◌, ◌≤◌, ◌<◌}
use native.Mathlib.Omega.{arith}
use lib.ListN.{length}
use lib.Dec.{leb}
use borrow.Author.Tests.{le-leb, lt-leb, lt-ltb, le-ltb, leb-true}
use Rattle.answer.specs.Answer.{refuse_of, contradiction, not_found}
use Rattle.answer.specs.Test.{must}
use Rattle.answer.specs.declared.Refusal.{Refusal}
use Rattle.answer.proofs.Laws.{must_on, must_off}
use Rattle.fields.specs.Number.{number_at}
use Rattle.fields.proofs.Laws.{Missed, le_or_lt, field_value, field_cut, ok_not_err, same_ok}
use Rattle.cursor.proofs.Laws.{Took}
use Rattle.scope_table.specs.Scope.{count_from, entry_from, read_of}

-- the number of entries
module _ (s : List ℕ) (start : ℕ) where
  abbrev fitted : ℕ → Result ℕ Refusal
  fitted n = must Err (leb (start + 4 + 16 * n) (length s)) contradiction (Ok n)

  pub count_cut : {i : ℕ} {q : Refusal} → i ≡ start → Missed 4 s i q → Err q ≡ count_from s start
  unfolding count_from
  count_cut e m = field_cut fitted Err false 4 s start (omega (arith, m.past)) (m.why ∙ rw e)

  module _ {i n j : ℕ} (e : i ≡ start) (f : Took false 4 s i n j) where
    from : fitted n ≡ count_from s start
    unfolding count_from
    from = field_value fitted Err false 4 s start (omega (arith, f.inside)) (f.value ∙ rw e)

    pub count_fits : n ≤ (length s - j) / 16 → Ok n ≡ count_from s start
    count_fits l =
        let p : start + 4 + 16 * n ≤ length s = omega (arith, f.inside, f.past) in
        must_on Err _ _ _ (le-leb (start + 4 + 16 * n) (length s) p) refl ∙ from

    pub count_contradicts : {q : Refusal} → (length s - j) / 16 < n → q ≡ refuse_of contradiction → Err q ≡ count_from s start
    count_contradicts l d =
        let p : length s < start + 4 + 16 * n = omega (arith, f.inside, f.past) in
        must_off Err _ _ _ (lt-leb (start + 4 + 16 * n) (length s) p) d ∙ from

told : (test : Bool) (m : ℕ) {n : ℕ} → ◌≡◌ {A = Result ℕ Refusal} (Ok n) (must Err test contradiction (Ok m))
    → (test ≡ true) × (n ≡ m)
unfolding must
told true m e = (refl, same_ok e)
told false m e = absurd (ok_not_err e)

-- what a number of entries says
pub count_told : (s : List ℕ) (start : ℕ) {n : ℕ} → Ok n ≡ count_from s start
    → (n ≡ number_at false 4 s start) × (start + 4 + 16 * n ≤ length s)
unfolding count_from
count_told s start {n} e =
    ⊎_elim
    (λ l.
    let p = told _ _ (e ∙ sym (field_value (fitted s start) Err false 4 s start l refl)) in
    let q : start + 4 + 16 * number_at false 4 s start ≤ length s = leb-true _ _ p.0 in
    (p.1, omega (arith, p.1)))
    (λ l. absurd (ok_not_err (e ∙ sym (field_cut (fitted s start) Err false 4 s start l refl))))
    (le_or_lt (start + 4) (length s))

-- the entry at an index
module _ (s : List ℕ) (start index : ℕ) {r : Result ℕ Refusal} (e : r ≡ count_from s start) where
  pub entry_refused : {k : Refusal} → r ≡ Err k → Err k ≡ entry_from s start index
  unfolding entry_from
  entry_refused f = rw (← e, f)

  module _ {n : ℕ} (f : r ≡ Ok n) where
    pub entry_none : {q : Refusal} → n ≤ index → q ≡ refuse_of not_found → Err q ≡ entry_from s start index
    unfolding entry_from
    entry_none l d = rw (← e, f) (must_off Err _ _ _ (le-ltb index n l) d)

    pub entry_there : {x : Result ScopeTableEntry Refusal} → index < n → x ≡ read_of s (start + 4 + 16 * index) → x ≡ entry_from s start index
    unfolding entry_from
    entry_there l d = rw (← e, f) (must_on Err _ _ _ (lt-ltb index n l) d)
