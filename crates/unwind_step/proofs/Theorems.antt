-- What is proved of a step, for every input.
-- Assumes nothing.
use Rattle.std.specs.Prelude.{Result, Ok, Err, Option, Some, None, ℕ}
use Rattle.answer.specs.Answer.{on_ok, values}
use mathlib.Core.Path.{◌≡◌, refl, ap, ◌∙◌}
use mathlib.Core.List.{List}
use mathlib.Core.Bool.{Bool, true, false}
use Prim.Native.Nat.{ℕ}
use native.Mathlib.Omega.{arith}
use lib.ListN.{length}
use Rattle.answer.specs.Test.{pick}
use Rattle.answer.specs.declared.Refusal.{Refusal}
use Rattle.answer.proofs.Unique.{same}
use Rattle.runtime_function.specs.declared.RuntimeFunction.{RuntimeFunction}
use Rattle.pe_mapping.specs.declared.Sections.{Sections}
use Rattle.exception_data.specs.declared.ExceptionData.{ExceptionData}
use Rattle.runtime_lookup.specs.Lookup.{find_function_of}
use Rattle.runtime_lookup.specs.declared.Holder.{Holder}
use Rattle.unwind_chain.specs.Chain.{Chain, ReadChain, chain, refused_chain, on_chain, chain_of}
use Rattle.unwind_state.specs.State.{gpr, Window}
use Rattle.unwind_state.specs.declared.State.{State}
use Rattle.unwind_undo.specs.Undo.{Undone, on, caller, lost, base_when_undone, last_step, unwind_of}
use Rattle.unwind_undo.specs.Named.{names_gpr, names_xmm, any_of}
use Rattle.unwind_undo.proofs.Kept.{Keeps, keeps_on, keeps_caller, SameGpr, SameXmm, gpr_kept, xmm_kept_lem}
use Rattle.unwind_step.specs.Step.{relative_address_of, refused_step, step_by, undone_at, found_of, leaf_of, is_not_found, step_of}
use Rattle.unwind_step.specs.Answers.{answer_step_answer, count_step_answer, answer_relative_address, count_relative_address}
use Rattle.unwind_step.specs.declared.Stepped.{Stepped}

-- A refusal leaves the registers.
abbrev Leaves : State → Stepped → Type 0
Leaves s r = (k : Refusal) → r.answer ≡ Err k → r.state ≡ s

done_not : {k : Refusal} → ◌≡◌ {A = Result Unit Refusal} (Ok tt) (Err k) → ⊥
done_not e = let z : ◌≡◌ {A = ℕ} 0 1 = cc in omega arith

module _ (s : State) where
  by_leaves : (u : Undone) → Leaves s (step_by s u)
  by_leaves (on t) k e = absurd (done_not e)
  by_leaves (caller t) k e = absurd (done_not e)
  by_leaves lost k e = refl

  chain_leaves : (c : ReadChain) (f : Chain → Undone) → Leaves s (on_chain c (refused_step s) (λ c. step_by s (f c)))
  chain_leaves (chain c) f = by_leaves (f c)
  chain_leaves (refused_chain q) f = λ k e. refl

  found_leaves : (b : List ℕ) (sections : Sections) (r : RuntimeFunction) (a : ℕ) (words : List ℕ) (base : ℕ)
      → Leaves s (found_of b sections r a s words base)
  unfolding found_of
  found_leaves b sections r a words base =
      chain_leaves (chain_of b sections r) (λ c. unwind_of base_when_undone (record { base = base; words = words }) (undone_at a c) s)

  pick_leaves : (t : Bool) (x y : Stepped) → Leaves s x → Leaves s y → Leaves s (pick t x y)
  pick_leaves true x y h i = h
  pick_leaves false x y h i = i

  look_leaves : (x : Result Holder Refusal) (f : Refusal → Stepped) (g : Holder → Stepped) → ((k : Refusal) → Leaves s (f k))
      → ((h : Holder) → Leaves s (g h))
      → Leaves s (on_ok x f g)
  look_leaves (Ok h) f g i j = j h
  look_leaves (Err k) f g i j = i k

pub refusal_leaves : (b : List ℕ) (opened : ExceptionData) (a : ℕ) (s : State) (words : List ℕ) (base : ℕ) (k : Refusal)
    → (step_of b opened a s words base).answer ≡ Err k → (step_of b opened a s words base).state ≡ s
unfolding step_of
refusal_leaves b opened a s words base =
    look_leaves s (find_function_of b opened a)
    (λ k. pick (is_not_found k) (leaf_of s (record { base = base; words = words })) (refused_step s k))
    (λ h. found_of b opened.sections h.function a s words base)
    (λ k.
    pick_leaves s (is_not_found k) (leaf_of s (record { base = base; words = words })) (refused_step s k)
    (by_leaves s (last_step (record { base = base; words = words }) s)) (λ q e. refl))
    (λ h. found_leaves s b opened.sections h.function a words base)

-- Registers that no undone code names stay, RSP and RIP aside.
by_kept : (P : State → Type 0) (s : State) (u : Undone) → P s → Keeps P u → P (step_by s u).state
by_kept P s (on t) p (keeps_on h) = h
by_kept P s (caller t) p (keeps_caller h) = h
by_kept P s lost p h = p

module _ (b : List ℕ) (opened : ExceptionData) (a : ℕ) (s : State) (words : List ℕ) (base : ℕ) (h : Holder) (c : Chain)
    (found : find_function_of b opened a ≡ Ok h) (is : chain_of b opened.sections h.function ≡ chain c) where
  abbrev w : Window
  w = record { base = base; words = words }

  -- Where the lookup finds a record and its chain is read, a step is its codes undone.
  pub step_there : step_of b opened a s words base ≡ step_by s (unwind_of base_when_undone w (undone_at a c) s)
  unfolding step_of found_of
  step_there = rw (found, is)

  pub gpr_stays : (r : ℕ) → (r ≡ 4 → ⊥) → any_of (names_gpr r) (undone_at a c) ≡ false
      → gpr (step_of b opened a s words base).state r ≡ gpr s r
  gpr_stays r ne e =
      ap (λ (z : Stepped). gpr z.state r) step_there
      ∙ by_kept (SameGpr r s) s (unwind_of base_when_undone w (undone_at a c) s) refl (gpr_kept w (undone_at a c) s r ne e)

  pub xmm_stays : (n : ℕ) → any_of (names_xmm n) (undone_at a c) ≡ false → SameXmm n s (step_of b opened a s words base).state
  xmm_stays n e =
      rw step_there
      (by_kept (SameXmm n s) s (unwind_of base_when_undone w (undone_at a c) s) (record { low = refl; high = refl })
      (xmm_kept_lem w (undone_at a c) s n e))

-- Two answers that meet a promise of this crate are equal.
pub step_unique : (b : List ℕ) (opened : ExceptionData) (a : ℕ) (s : State) (words : List ℕ) (base : ℕ) {r q : Result Unit Refusal} {t u : State}
    → record { answer = r; state = t } ≡ step_of b opened a s words base → record { answer = q; state = u } ≡ step_of b opened a s words base
    → (r ≡ q) × (t ≡ u)
step_unique b opened a s words base e f = (ap (λ (z : Stepped). z.answer) (same e f), ap (λ (z : Stepped). z.state) (same e f))

pub step_value_unique : (b : List ℕ) (opened : ExceptionData) (a : ℕ) (s : State) (words : List ℕ) (base : ℕ) {r q : Stepped}
    → r ≡ step_of b opened a s words base → q ≡ step_of b opened a s words base → r ≡ q
step_value_unique b opened a s words base = same

pub relative_address_unique : (rip image : ℕ) {r q : Option ℕ} → r ≡ relative_address_of rip image → q ≡ relative_address_of rip image
    → r ≡ q
relative_address_unique rip image = same

-- Each answer has as many numbers as it says, zeros where it is refused.
pub step_count : (a : Result Unit Refusal) → length (values count_step_answer (answer_step_answer a)) ≡ count_step_answer
step_count (Ok tt) = refl
step_count (Err k) = refl

pub relative_address_count : (a : Option ℕ) → length (values count_relative_address (answer_relative_address a)) ≡ count_relative_address
relative_address_count (Some a) = refl
relative_address_count None = refl
