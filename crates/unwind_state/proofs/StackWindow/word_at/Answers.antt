-- `unwind_state::StackWindow::word_at` meets its contract: each test is a condition of the definition.
-- Assumes nothing.
use Rattle.std.proofs.Common.{◌≡◌, ◌∙◌, ℕ, ◌-◌, ◌<◌, length, get_or, None, Some, arith, rules, ap, sym, List, ltb, eq-eqb, ne_eqb, Option, Bor, is_some, IfSome, option_copied}
use borrow.Author.Tests.{le-leb, lt-leb, ltb-true}
use Rattle.std.proofs.lemmas.Grind.{get_or_default_zero}
use Rattle.answer.specs.Test.{pick}
use Rattle.unwind_state.specs.State.{word_at}
use Rattle.unwind_state.proofs.StackWindow.word_at.Goals as goal
use Rattle.unwind_state.proofs.StackWindow.word_at.Goals.{then-self-ne0-via-then-self-ne0, then-self-ne0-via-else-self-ne0+then-address-ne0}

-- the word of a window at a place, or none
window_word : (s : List ℕ) (i : ℕ) (o : Option (Bor ℕ)) → is_some o ≡ ltb i (length s) → IfSome o (λ b. b.now ≡ get_or s i b.now)
    → option_copied o ≡ pick (ltb i (length s)) (Some (get_or s i 0)) None
window_word s i (Some b) e f = rw (← e) (ap Some (f ∙ get_or_default_zero s i b.now (ltb-true _ _ (sym e))))
window_word s i None e f = rw (← e)

pub returns-then-self-ne0 : goal.returns-then-self-ne0
unfolding word_at
returns-then-self-ne0 c =
    elim c.then-self-ne0.branch [
      | then-self-ne0-via-then-self-ne0 w ↦ simp (ne_eqb _ _ w.if-self-ne0.true)
      | then-self-ne0-via-else-self-ne0+then-address-ne0 w ↦ simp (eq-eqb _ _ w.if-self-ne0.false, ne_eqb _ _ w.if-address-ne0.true)
    ]

pub returns-in_err-place : goal.returns-in_err-place
unfolding word_at
returns-in_err-place c =
    let k : c.from_residual.result ≡ None = search rules in
    let below : c.args.address < c.args.self.base = omega (arith, c.in_err-place.ensures) in
    simp (eq-eqb _ _ c.if-self-ne0.false, eq-eqb _ _ c.if-address-ne0.false, lt-leb _ _ below, k)

pub returns : goal.returns
unfolding word_at
returns c =
    let p = c.in_ok-place.ensures in
    let place : c.in_ok-place.field-0 ≡ c.args.address - c.args.self.base = p.1 in
    let w = window_word _ _ c.get.result c.get.ensures.lookup.0 c.get.ensures.lookup.1 in
    simp (eq-eqb _ _ c.if-self-ne0.false, eq-eqb _ _ c.if-address-ne0.false, le-leb _ _ p.0) (c.copied.ensures ∙ rw place at w)
