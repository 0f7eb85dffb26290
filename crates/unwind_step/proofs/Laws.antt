-- How undoing along the cursor of a chain is undoing its codes in order.
-- Assumes nothing.
use Rattle.std.specs.Prelude.{Result, Ok, Err, Option, Some, None, eqb, OkIff}
use Rattle.std.specs.Result.{result_ok}
use Rattle.answer.specs.Answer.{on_ok, number_of_reason}
use mathlib.Core.Path.{◌≡◌, refl, sym, ap, ◌∙◌}
use mathlib.Core.List.{List, [], ◌∷◌}
use mathlib.Core.Bool.{Bool, true, false}
use Prim.Native.Nat.{ℕ, ◌-◌, ◌^◌, ◌≤◌, ◌<◌}
use native.Mathlib.Omega.{arith}
use borrow.Author.Tests.{le-leb, lt-leb, lt-ltb, le-ltb}
use Rattle.answer.specs.Test.{pick}
use Rattle.answer.specs.declared.Reason.{Reason}
use Rattle.answer.specs.declared.Reason.TheVariants as reason
use Rattle.answer.specs.declared.Refusal.{Refusal}
use Rattle.runtime_function.specs.declared.RuntimeFunction.{RuntimeFunction}
use Rattle.pe_mapping.specs.declared.Sections.{Sections}
use Rattle.exception_data.specs.declared.ExceptionData.{ExceptionData}
use Rattle.runtime_lookup.specs.Lookup.{find_function_of, uncounted}
use Rattle.runtime_lookup.specs.declared.Holder.{Holder}
use Rattle.runtime_lookup.specs.declared.Found.{Found}
use Rattle.unwind_operation.specs.declared.UnwindCode.{UnwindCode}
use Rattle.unwind_array.specs.Arrays.{CodeArray, ChainCode}
use Rattle.unwind_chain.specs.Chain.{Chain, ReadChain, chain, refused_chain, on_chain, chain_of, totals_of, count_all_codes_of, arrays_of}
use Rattle.unwind_chain.specs.Cursor.{start_chain_of, next_chain_code_of}
use Rattle.unwind_chain.specs.declared.Totals.{Totals}
use Rattle.unwind_chain.specs.declared.ChainCursor.{ChainCursor}
use Rattle.unwind_chain.specs.declared.ChainStart.{ChainStart}
use Rattle.unwind_chain.specs.declared.TakenChainCode.{TakenChainCode}
use Rattle.unwind_chain.specs.declared.NextChainCode.TheVariants.{Code, Info, End}
use Rattle.unwind_chain.proofs.Walk.{Walks, walks_code, walks_info, walks_end, to_come, chain_code, code_walked, info_walked, end_walked, never_refused, start_of, Walked, chain_walked}
use Rattle.unwind_state.specs.State.{Window}
use Rattle.unwind_state.specs.declared.State.{State}
use Rattle.unwind_undo.specs.Undo.{Undone, on, caller, lost, base_when_undone, undo_of, last_step, and_then, undo_from, unwind_of, framed_by}
use Rattle.unwind_undo.specs.Distance.{Distance, distance_of, undone_by, undone_of}
use Rattle.unwind_undo.specs.Code.{undo_in, window_of, undo_operation_of, last_step_of}
use Rattle.unwind_undo.specs.declared.Undone.{Undone as Answered}
use Rattle.unwind_undo.specs.declared.Undone.TheVariants.{On, Caller}
use Rattle.unwind_undo.proofs.Theorems.{base_free}
use Rattle.unwind_step.specs.Step.{relative_address_of, refused_step, done_step, step_by, undone_at, found_of, leaf_of, is_not_found, step_of}
use Rattle.unwind_step.specs.Code.{stepped_of, reached_of, ended_of, code_undone_of}
use Rattle.unwind_step.specs.declared.Stepped.{Stepped}

-- the base of a save goes by nothing that is known before
free_by : (x y : Undone) (f g : State → Undone) → x ≡ y → ((t : State) → f t ≡ g t) → and_then x f ≡ and_then y g
free_by x y f g e h = ap (λ u. and_then u f) e ∙ on_by y
  where
    on_by : (u : Undone) → and_then u f ≡ and_then u g
    on_by (on t) = h t
    on_by (caller t) = refl
    on_by lost = refl

from_free : (stop other : State) (framed also : Bool) (w : Window) (cs : List ChainCode) (s : State)
    → undo_from (base_when_undone stop framed) w cs s ≡ undo_from (base_when_undone other also) w cs s
unfolding undo_from
from_free stop other framed also w [] s = refl
from_free stop other framed also w (c ∷ cs) s =
    free_by _ _ _ _ (base_free stop other framed also w c.frame c.code.operation s) (λ t. from_free stop other framed also w cs t)

-- how a step goes on after a code
abbrev go_on : Result Answered Refusal → State → (State → Stepped) → Stepped
go_on (Ok (On t)) first f = f t
go_on (Ok (Caller t)) first f = done_step t
go_on (Err k) first f = refused_step first k

module _ (first : State) (words : List ℕ) (base : ℕ) where
  abbrev w : Window
  w = window_of words base

  -- what codes that are left come to
  unfoldable pub rest_of : List ChainCode → State → Stepped
  rest_of cs t = step_by first (undo_from (base_when_undone first false) w cs t)

  one_by : (x : Undone) (t : State) (cs : List ChainCode)
      → step_by first (and_then x (undo_from (base_when_undone first false) w cs)) ≡ go_on (reached_of (undo_in x)) first (rest_of cs)
  unfolding rest_of
  one_by (on v) t cs = refl
  one_by (caller v) t cs = refl
  one_by lost t cs = refl

  turn_by_lem : (b : Bool) (c : ChainCode) (cs : List ChainCode) (t : State)
      → rest_of (pick b (c ∷ cs) cs) t
      ≡ go_on
      (reached_of (pick b (undo_operation_of c.code.operation c.frame.register c.frame.offset t words base) (Some (On t))))
      first (rest_of cs)
  unfolding rest_of undo_from undo_operation_of
  turn_by_lem true c cs t =
      ap (λ u. step_by first (and_then u (undo_from (base_when_undone first false) w cs)))
      (base_free first t false false w c.frame c.code.operation t)
      ∙ one_by (undo_of (base_when_undone t false) w c.frame c.code.operation t) t cs
  turn_by_lem false c cs t = refl

last_by : (first : State) (x : Undone) → stepped_of first (ended_of (undo_in x)) ≡ step_by first x
last_by first (on v) = refl
last_by first (caller v) = refl
last_by first lost = refl

-- What is still to come from a cursor does not depend on how it is walked.
same_rest : {c d : UnwindCode} {cs ds : List UnwindCode} → c ∷ cs ≡ d ∷ ds → cs ≡ ds
same_rest e = cc

same_array : {a b : CodeArray} {xs ys : List CodeArray} → a ∷ xs ≡ b ∷ ys → a ≡ b
same_array e = cc

same_arrays : {a b : CodeArray} {xs ys : List CodeArray} → a ∷ xs ≡ b ∷ ys → xs ≡ ys
same_arrays e = cc

module _ (s : List ℕ) (sections : Sections) where
  walks_same : (k : ChainCursor) (cs ds : List UnwindCode) (xs ys : List CodeArray) → Walks s sections k cs xs → Walks s sections k ds ys
      → to_come k cs xs ≡ to_come k ds ys
  walks_same k zs ds xs ys (walks_code {t = t} {cs = cs} e v) u =
      let f = code_walked s sections k (t.code ∷ cs) xs (walks_code e v) e in
      let g = code_walked s sections k ds ys u e in
      f.come
      ∙ (ap (λ l. chain_code k t.code ∷ to_come t.next l xs) (sym (same_rest f.list))
      ∙ (ap (λ l. chain_code k t.code ∷ l) (walks_same t.next cs g.rest xs ys v g.walks) ∙ sym g.come))
  walks_same k zs ds bs ys (walks_info {x = x} {a = a} {arrays = xs} e h i v) u =
      let f = info_walked s sections k [] (a ∷ xs) (walks_info e h i v) e in
      let g = info_walked s sections k ds ys u e in
      f.come
      ∙ (ap (λ b. to_come x b.codes f.rest) (sym (same_array f.list))
      ∙ (ap (λ l. to_come x a.codes l) (sym (same_arrays f.list))
      ∙ (walks_same x a.codes g.array.codes xs g.rest v g.walks ∙ sym g.come)))
  walks_same k zs ds xs ys (walks_end e) u =
      (end_walked s sections k [] [] (walks_end e) e).2 ∙ sym (end_walked s sections k ds ys u e).2

-- What a loop along the cursor keeps: from the cursor `k` and the registers `t`, what is left comes to the same as all from the cursor
-- `start` and the registers at the stop.
pub record Left (s : List ℕ) (sections : Sections) (first : State) (words : List ℕ) (base : ℕ) (d : Distance) (start k : ChainCursor)
    (t : State)
    : Type 0 where
  pub codes₀ : List UnwindCode
  pub arrays₀ : List CodeArray
  pub walks₀ : Walks s sections start codes₀ arrays₀
  pub codes : List UnwindCode
  pub arrays : List CodeArray
  pub walks : Walks s sections k codes arrays
  pub same : rest_of first words base (undone_of d (to_come k codes arrays)) t ≡ rest_of first words base
      (undone_of d (to_come start codes₀ arrays₀)) first

module _ (s : List ℕ) (sections : Sections) (first : State) (words : List ℕ) (base begin address : ℕ) (start k : ChainCursor) (t : State)
  where
    abbrev d : Distance
    d = distance_of address begin

    abbrev Here : ChainCursor → State → Type 0
    Here = Left s sections first words base d start

    module _ (l : Here k t) where
      -- what all comes to
      abbrev all_of_lem : Stepped
      all_of_lem = rest_of first words base (undone_of d (to_come start l.codes₀ l.arrays₀)) first

      module _ {x : TakenChainCode} {u : Option Answered} {y : Result Answered Refusal} (e : Ok (Code x) ≡ next_chain_code_of s sections k)
          (f : u ≡ code_undone_of x.code k begin address t words base) (g : y ≡ reached_of u) where
        abbrev rest : List ChainCode
        rest = undone_of d (to_come x.next (code_walked s sections k l.codes l.arrays l.walks e).rest l.arrays)

        after_code : go_on y first (rest_of first words base rest) ≡ all_of_lem
        unfolding code_undone_of undone_of
        after_code =
            ap (λ z. go_on z first (rest_of first words base rest)) (g ∙ ap reached_of f)
            ∙ (sym (turn_by_lem first words base (undone_by d (chain_code k x.code)) (chain_code k x.code) rest t)
            ∙ (ap (λ cs. rest_of first words base (undone_of d cs) t) (sym (code_walked s sections k l.codes l.arrays l.walks e).come)
            ∙ l.same))

        pub code_on : {v : State} → y ≡ Ok (On v) → Here x.next v
        code_on h =
            let q = code_walked s sections k l.codes l.arrays l.walks e in
            record {
              codes₀ = l.codes₀;
              arrays₀ = l.arrays₀;
              walks₀ = l.walks₀;
              codes = q.rest;
              arrays = l.arrays;
              walks = q.walks;
              same = sym (ap (λ o. go_on o first (rest_of first words base rest)) h) ∙ after_code;
            }

        pub code_caller : {v : State} → y ≡ Ok (Caller v) → done_step v ≡ all_of_lem
        code_caller h = sym (ap (λ o. go_on o first (rest_of first words base rest)) h) ∙ after_code

        pub code_lost : {q : Refusal} {v : Result State Refusal} → y ≡ Err q → v ≡ Err q → stepped_of first v ≡ all_of_lem
        code_lost h i = ap (stepped_of first) i ∙ (sym (ap (λ o. go_on o first (rest_of first words base rest)) h) ∙ after_code)

      pub info_on : {x : ChainCursor} → Ok (Info x) ≡ next_chain_code_of s sections k → Here x t
      info_on e =
          let q = info_walked s sections k l.codes l.arrays l.walks e in
          record {
            codes₀ = l.codes₀;
            arrays₀ = l.arrays₀;
            walks₀ = l.walks₀;
            codes = q.array.codes;
            arrays = q.rest;
            walks = q.walks;
            same = ap (λ cs. rest_of first words base (undone_of d cs) t) (sym q.come) ∙ l.same;
          }

      pub end_last : {u : Option Answered} {v : Result State Refusal} → Ok End ≡ next_chain_code_of s sections k
          → u ≡ last_step_of t words base → v ≡ ended_of u → stepped_of first v ≡ all_of_lem
      unfolding last_step_of rest_of undone_of undo_from
      end_last e f g =
          ap (stepped_of first) g
          ∙ (ap (λ u. stepped_of first (ended_of u)) f
          ∙ (last_by first (last_step (window_of words base) t)
          ∙ (ap (λ cs. rest_of first words base (undone_of d cs) t) (sym (end_walked s sections k l.codes l.arrays l.walks e).2) ∙ l.same)))

      pub refused_never : {q : Refusal} → Err q ≡ next_chain_code_of s sections k → ⊥
      refused_never e = never_refused s sections k l.codes l.arrays l.walks e

-- what a step comes to from a chain that was read or refused
abbrev chained : State → List ℕ → ℕ → ℕ → ReadChain → Stepped
chained first words base address z =
    on_chain z (refused_step first) (λ c. step_by first (unwind_of base_when_undone (window_of words base) (undone_at address c) first))

-- a chain whose codes are counted was read
record Read (s : List ℕ) (sections : Sections) (r : RuntimeFunction) : Type 0 where
  pub here : Chain
  pub is : chain here ≡ chain_of s sections r

module _ (s : List ℕ) (sections : Sections) (r : RuntimeFunction) where
  read_by_lem : (x : ReadChain) {y : Totals} → x ≡ chain_of s sections r → Ok y ≡ totals_of x → Read s sections r
  read_by_lem (chain c) e f = record { here = c; is = e }
  read_by_lem (refused_chain k) e f = let z : ◌≡◌ {A = ℕ} 0 1 = cc in absurd (omega arith)

  read_chain : {y : Totals} → Ok y ≡ count_all_codes_of s sections r → Read s sections r
  read_chain f = read_by_lem (chain_of s sections r) refl f

  same_start : {x y : ChainStart} → ◌≡◌ {A = Result ChainStart Refusal} (Ok x) (Ok y) → x ≡ y
  same_start e = cc

  module _ {y : Totals} {x : ChainStart} (f : Ok y ≡ count_all_codes_of s sections r) (e : Ok x ≡ start_chain_of s sections r)
      (first : State) (words : List ℕ) (base address : ℕ) where
    abbrev c : Chain
    c = (read_chain f).here

    abbrev codes_from_lem : ChainCursor → List ChainCode
    codes_from_lem k = to_come k (arrays_of c).found.codes (arrays_of c).outer

    abbrev started : Walked s sections r (read_chain f).here
    started = chain_walked s sections r (read_chain f).here (read_chain f).is

    at_start : x ≡ record { begin = c.found.place.begin; cursor = start_of c }
    at_start = same_start (e ∙ sym started.starts)

    pub starts_here : Left s sections first words base (distance_of address x.begin) x.cursor x.cursor first
    starts_here =
        rw at_start
        (record {
          codes₀ = (arrays_of c).found.codes;
          arrays₀ = (arrays_of c).outer;
          walks₀ = started.walks;
          codes = (arrays_of c).found.codes;
          arrays = (arrays_of c).outer;
          walks = started.walks;
          same = refl;
        })

    found_is : rest_of first words base (undone_at address c) first ≡ found_of s sections r address first words base
    unfolding found_of rest_of unwind_of
    found_is =
        ap (step_by first) (from_free first first false (framed_by (undone_at address c)) (window_of words base) (undone_at address c) first)
        ∙ ap (chained first words base address) (read_chain f).is

    pub all_found : (k : ChainCursor) (t : State) (l : Left s sections first words base (distance_of address x.begin) x.cursor k t)
        → rest_of first words base (undone_of (distance_of address x.begin) (to_come x.cursor l.codes₀ l.arrays₀)) first
        ≡ found_of s sections r address first words base
    all_found k t l =
        let v : Walks s sections x.cursor (arrays_of c).found.codes (arrays_of c).outer = rw at_start started.walks in
        ap (λ cs. rest_of first words base (undone_of (distance_of address x.begin) cs) first)
        (walks_same s sections x.cursor l.codes₀ (arrays_of c).found.codes l.arrays₀ (arrays_of c).outer l.walks₀ v)
        ∙ (ap (λ z. rest_of first words base (undone_of (distance_of address z.begin) (codes_from_lem z.cursor)) first) at_start
        ∙ (ap (λ cs. rest_of first words base (undone_of (distance_of address c.found.place.begin) cs) first) started.come ∙ found_is))

  refused_found : (x : ReadChain) {q : Refusal} → Err q ≡ totals_of x → x ≡ refused_chain q
  refused_found (chain c) f = let z : ◌≡◌ {A = ℕ} 0 1 = cc in absurd (omega arith)
  refused_found (refused_chain k) f = cc

  never_by : {y : ChainStart} {q : Refusal} → ◌≡◌ {A = Result ChainStart Refusal} (Ok y) (Err q) → ⊥
  never_by e = let z : ◌≡◌ {A = ℕ} 0 1 = cc in omega arith

  -- the start of a chain that was read is not refused
  pub start_never : {y : Totals} {q : Refusal} → Ok y ≡ count_all_codes_of s sections r → Err q ≡ start_chain_of s sections r
      → ⊥
  start_never f g = never_by ((chain_walked s sections r (read_chain f).here (read_chain f).is).starts ∙ sym g)

  -- a chain that is refused
  pub found_refused : (first : State) (words : List ℕ) (base address : ℕ) {q : Refusal} {v : Result State Refusal}
      → Err q ≡ count_all_codes_of s sections r → v ≡ Err q → stepped_of first v ≡ found_of s sections r address first words base
  unfolding found_of
  found_refused first words base address f e =
      ap (stepped_of first) e ∙ sym (ap (chained first words base address) (refused_found (chain_of s sections r) f))

-- a refusal for another reason is no leaf's
other_by : (why : Reason) → (why ≡ reason.NotFound → ⊥) → eqb (number_of_reason why) 10 ≡ false
other_by reason.Short n = refl
other_by reason.Magic n = refl
other_by reason.Limit n = refl
other_by reason.Contradiction n = refl
other_by reason.NoSection n = refl
other_by reason.Version n = refl
other_by reason.Operation n = refl
other_by reason.Links n = refl
other_by reason.Order n = refl
other_by reason.NotFound n = absurd (n refl)
other_by reason.NotStrict n = refl
other_by reason.Stack n = refl
other_by reason.Room n = refl
other_by reason.PastFile n = refl
other_by reason.Machine n = refl

-- what a step comes to, by the lookup
module _ (s : List ℕ) (opened : ExceptionData) (first : State) (words : List ℕ) (base address : ℕ) (r : Result Found Refusal)
    (e : uncounted r ≡ find_function_of s opened address) where
  abbrev looked : Result Holder Refusal → Stepped
  looked z =
      on_ok z
      (λ k. pick (is_not_found k) (leaf_of first (window_of words base)) (refused_step first k))
      (λ h. found_of s opened.sections h.function address first words base)

  step_is : {z : Result Found Refusal} → r ≡ z → looked (uncounted z) ≡ step_of s opened address first words base
  unfolding step_of
  step_is f = ap looked (sym (ap uncounted f) ∙ e)

  pub step_holder : {x : Found} {v : Stepped} → r ≡ Ok x → v ≡ found_of s opened.sections x.holder.function address first words base
      → v ≡ step_of s opened address first words base
  step_holder f g = g ∙ step_is f

  pub step_leaf : {k : Refusal} {u : Option Answered} {v : Result State Refusal} → r ≡ Err k → k.reason ≡ reason.NotFound
      → u ≡ last_step_of first words base → v ≡ ended_of u → stepped_of first v ≡ step_of s opened address first words base
  unfolding last_step_of
  step_leaf {k} f h i j =
      ap (stepped_of first) j
      ∙ (ap (λ u. stepped_of first (ended_of u)) i
      ∙ (last_by first (last_step (window_of words base) first)
      ∙ (ap (λ y. pick (eqb (number_of_reason y) 10) (leaf_of first (window_of words base)) (refused_step first k)) (sym h) ∙ step_is f)))

  pub step_refused : {k : Refusal} → r ≡ Err k → (k.reason ≡ reason.NotFound → ⊥)
      → stepped_of first (Err k) ≡ step_of s opened address first words base
  step_refused {k} f n =
      ap (λ b. pick b (leaf_of first (window_of words base)) (refused_step first k)) (sym (other_by k.reason n)) ∙ step_is f

-- the address of RIP in an image
module _ (rip image : ℕ) where
  pub address_below : (image ≤ rip → ⊥) → None ≡ relative_address_of rip image
  unfolding relative_address_of
  address_below n = simp (lt-leb image rip (omega (arith, n)))

  pub address_there : {E : Type 0} {d : ℕ} (x : Result ℕ E) → image ≤ rip → d ≡ rip - image → OkIff x (d < 4294967296) d
      → result_ok x ≡ relative_address_of rip image
  unfolding relative_address_of
  address_there (Ok y) h e f = rw (le-leb image rip h, lt-ltb (rip - image) (2 ^ 32) (omega (arith, e, f.0))) (ap Some (f.1 ∙ e))
  address_there (Err y) h e f = rw (le-leb image rip h, le-ltb (rip - image) (2 ^ 32) (omega (arith, e, f))) refl
