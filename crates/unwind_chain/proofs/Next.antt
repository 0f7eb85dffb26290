-- The laws of the cursor, one for each outcome: what the proofs of this crate cite.
-- Assumes nothing.
use Rattle.std.specs.Prelude.{Result, Ok, Err}
use mathlib.Core.Path.{◌≡◌, refl}
use mathlib.Core.List.{List}
use mathlib.Core.Bool.{false, true}
use Prim.Native.Nat.{ℕ, ◌≤◌, ◌<◌}
use lib.ListN.{length}
use borrow.Author.Tests.{le-leb, lt-leb, lt-ltb, le-ltb}
use Rattle.answer.specs.Answer.{refuse_of, cut_of, limit}
use Rattle.answer.specs.Test.{file_limit}
use Rattle.answer.specs.declared.Refusal.{Refusal}
use Rattle.answer.proofs.Laws.{must_on, must_off}
use Rattle.runtime_function.specs.declared.RuntimeFunction.{RuntimeFunction}
use Rattle.pe_mapping.specs.declared.Sections.{Sections}
use Rattle.unwind_operation.specs.Operation.{next_code_of}
use Rattle.unwind_operation.specs.declared.TakenCode.{TakenCode}
use Rattle.unwind_info.specs.Unwind.{codes_end}
use Rattle.unwind_info.specs.declared.UnwindHandler.{UnwindHandler}
use Rattle.unwind_info.specs.declared.Follows.{Follows}
use Rattle.unwind_info.specs.declared.Follows.TheVariants.{Nothing, Chained, Handler}
use Rattle.unwind_codes.specs.Codes.{slots_of}
use Rattle.unwind_links.specs.Links.{first_info_of, chained_info_of}
use Rattle.unwind_links.specs.declared.ReachedInfo.{ReachedInfo}
use Rattle.unwind_chain.specs.Cursor.{cursor_at, at_slot, start_chain_of, code_in, code_at, after_codes, next_chain_code_of}
use Rattle.unwind_chain.specs.declared.ChainCursor.{ChainCursor}
use Rattle.unwind_chain.specs.declared.NextChainCode.{NextChainCode}
use Rattle.unwind_chain.specs.declared.NextChainCode.TheVariants.{Code, Info, End}

-- where a chain starts
module _ (s : List ℕ) (sections : Sections) (r : RuntimeFunction) {x : Result ReachedInfo Refusal} (e : x ≡ first_info_of s sections r) where
  pub start_there : {y : ReachedInfo} {k : ChainCursor} → x ≡ Ok y → k ≡ cursor_at y.place.links y.info true
      → Ok (record { begin = y.place.begin; cursor = k }) ≡ start_chain_of s sections r
  start_there f d = rw (← e, f, d)

-- the code at the cursor's slot, of the slots of its info
module _ (slots : List ℕ) (k : ChainCursor) {x : Result TakenCode Refusal}
    (e : x ≡ next_code_of slots k.slot k.header.version k.header.frame_register.0) where
  pub code_taken : {t : TakenCode} → x ≡ Ok t → Ok (Code (record { code = t.code; next = at_slot k t.next })) ≡ code_in slots k
  unfolding code_in
  code_taken f = rw (← e, f)

module _ (s : List ℕ) (k : ChainCursor) where
  pub code_inside : {x : Result NextChainCode Refusal} → codes_end k.header ≤ length s → x ≡ code_in (slots_of s k.header) k → x ≡ code_at s k
  unfolding code_at
  code_inside h d = rw (le-leb _ _ h) d

  pub code_cut : {q : Refusal} → length s < codes_end k.header → q ≡ cut_of (codes_end k.header) → Err q ≡ code_at s k
  unfolding code_at
  code_cut h d = rw (lt-leb _ _ h, d)

module _ (s : List ℕ) (sections : Sections) (k : ChainCursor) where
  -- after the last code of an info
  pub after_nothing : k.follows ≡ Nothing → Ok End ≡ after_codes s sections k
  unfolding after_codes
  after_nothing e = rw e

  pub after_handler : {y : UnwindHandler} → k.follows ≡ Handler y → Ok End ≡ after_codes s sections k
  unfolding after_codes
  after_handler e = rw e

  after_by : (f : Follows) → k.follows ≡ f → ((r : RuntimeFunction) → f ≡ Chained r → ⊥) → Ok End ≡ after_codes s sections k
  after_by Nothing e n = after_nothing e
  after_by (Chained r) e n = absurd (n r refl)
  after_by (Handler y) e n = after_handler e

  pub after_none : ((r : RuntimeFunction) → k.follows ≡ Chained r → ⊥) → Ok End ≡ after_codes s sections k
  after_none n = after_by k.follows refl n

  module _ {r : RuntimeFunction} (e : k.follows ≡ Chained r) {x : Result ReachedInfo Refusal} (f : x ≡ chained_info_of s sections r k.links) where
    pub after_info : {y : ReachedInfo} {o : ChainCursor} → x ≡ Ok y → o ≡ cursor_at y.place.links y.info false
        → Ok (Info o) ≡ after_codes s sections k
    unfolding after_codes
    after_info d g = rw (e, ← f, d, g)

    pub after_refused : {q : Refusal} → x ≡ Err q → Err q ≡ after_codes s sections k
    unfolding after_codes
    after_refused d = rw (e, ← f, d)

  -- what comes next
  pub next_long : {q : Refusal} → file_limit < length s → q ≡ refuse_of limit → Err q ≡ next_chain_code_of s sections k
  unfolding next_chain_code_of
  next_long l d = must_off Err _ _ _ (lt-leb _ _ l) d

  module _ (l : length s ≤ file_limit) {x : Result NextChainCode Refusal} where
    pub next_code : k.slot < k.header.count_of_codes → x ≡ code_at s k → x ≡ next_chain_code_of s sections k
    unfolding next_chain_code_of
    next_code h d = must_on Err _ _ _ (le-leb _ _ l) (rw (lt-ltb _ _ h) d)

    pub next_after : k.header.count_of_codes ≤ k.slot → x ≡ after_codes s sections k → x ≡ next_chain_code_of s sections k
    unfolding next_chain_code_of
    next_after h d = must_on Err _ _ _ (le-leb _ _ l) (rw (le-ltb _ _ h) d)
