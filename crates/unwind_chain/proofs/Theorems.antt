-- What is proved of chains, for every input. That a function answers its definition is its contract (src/lib.rt); that the cursor walks the
-- codes of a chain is `chain_walked` (Walk).
-- Assumes nothing.
use Rattle.unwind_chain.specs.declared.Totals.{Totals}
use Rattle.unwind_chain.specs.declared.ChainStart.{ChainStart}
use Rattle.std.specs.Prelude.{Result, Ok, Err, Some, None, ℕ, List, ◌≡◌}
use mathlib.Core.Path.{◌≡◌, refl, sym, ap, ◌∙◌}
use mathlib.Core.List.{List, [], ◌∷◌, ◌++◌}
use mathlib.Core.Bool.{Bool, true, false}
use Prim.Native.Nat.{ℕ, zero, suc, ◌+◌, ◌-◌, ◌%◌, ◌≤◌, ◌<◌}
use native.Mathlib.Omega.{arith}
use lib.ListN.{length}
use Rattle.answer.specs.Answer.{values, refuse_of, links}
use Rattle.answer.specs.Test.{file_limit}
use Rattle.answer.specs.declared.Refusal.{Refusal}
use Rattle.answer.proofs.Unique.{same}
use Rattle.runtime_function.specs.declared.RuntimeFunction.{RuntimeFunction}
use Rattle.pe_mapping.specs.Mapping.{find_offset_of}
use Rattle.pe_mapping.specs.declared.Sections.{Sections}
use Rattle.unwind_operation.specs.declared.UnwindCode.{UnwindCode}
use Rattle.unwind_info.specs.declared.UnwindInfo.{UnwindInfo}
use Rattle.unwind_info.specs.declared.Follows.{Follows}
use Rattle.unwind_info.specs.declared.Follows.TheVariants.{Nothing, Chained, Handler}
use Rattle.unwind_codes.specs.Codes.{has, whole_info_at}
use Rattle.unwind_links.specs.Links.{link_limit, record_at_of, place_of, locate_info_of, first_info_of, next_info_of}
use Rattle.unwind_links.specs.declared.ReachedInfo.{ReachedInfo}
use Rattle.unwind_links.proofs.Laws.{place_there, located_told, located_odd, next_nothing, next_handler, next_info}
use Rattle.unwind_links.proofs.Theorems.{at_once as no_odds, thirty_two_pass as places_pass, thirty_three_refused as place_refused}
use Rattle.unwind_array.specs.Arrays.{Frame, CodeArray, ChainCode, codes_from, codes_in, outer_codes, joined_of}
use Rattle.unwind_chain.specs.Chain.{Link, link_at, Chain, ReadChain, chain, refused_chain, on_chain, single, before, chain_from, info_limit, chain_of, array_of, arrays_of_links, arrays_of, last_links, codes_of_all, count_all_codes_of}
use Rattle.unwind_chain.specs.Cursor.{start_chain_of, next_chain_code_of}
use Rattle.unwind_chain.specs.Answers.{answer_count_all_codes, count_count_all_codes, totals_numbers}
use Rattle.unwind_chain.specs.declared.ChainCursor.{ChainCursor}
use Rattle.unwind_chain.specs.declared.NextChainCode.{NextChainCode}
use Rattle.unwind_chain.proofs.Laws.{Located, link_unlocated, located_link, chain_by, chain_is, over, chain_at, chain_at_lem}
use Rattle.unwind_chain.proofs.Walk.{NotChained, Chains, last_info, more_infos, chain_told, chain_of_lem, head_of, reached_of, reached_link}

-- The bound of the definition cuts nothing off: with 33 infos left to the links that are, its equation holds with the same bound on both
-- sides.
pub chain_unbounded : (s : List ℕ) (sections : Sections) (infos : ℕ) (r : RuntimeFunction) (n : ℕ) → info_limit ≤ suc infos + n
    → chain_from (suc infos) s sections r n ≡ chain_by (λ e m. chain_from (suc infos) s sections e m) (link_at s sections r n)
chain_unbounded s sections infos r n h = chain_is s sections infos r n h

few : {s : List ℕ} {sections : Sections} {r : RuntimeFunction} {n : ℕ} (l : Link) (ls : List Link) → Chains s sections r n l ls
    → (l.place.links + length ls ≤ link_limit) × (last_links l ls ≤ link_limit)
few {s} {sections} {r} {n} l [] (last_info p h) =
    let w = (located_told s sections r n p.place).1 in
    (omega (arith, w.most), w.most)
few {s} {sections} {r} {n} l (m ∷ ms) (more_infos {e = e} p f h) =
    let w = (located_told s sections e (l.place.links + 1) (head_of h).place).1 in
    let b = few {r = e} {n = l.place.links + 1} m ms h in
    (omega (arith, w.least, b.0), b.1)

-- 12.6: A chain has at most 33 infos, and at most 32 links lead to its last.
pub chain_few : (s : List ℕ) (sections : Sections) (r : RuntimeFunction) (c : Chain) → chain c ≡ chain_of s sections r
    → (length (c.found ∷ c.outer) ≤ 33) × (last_links c.found c.outer ≤ 32)
chain_few s sections r c e =
    let b = few c.found c.outer (chain_told s sections info_limit r 0 c e) in
    (omega (arith, b.0), b.1)

-- from an info of a chain, `next_info` goes through those after it
pub data Visits (s : List ℕ) (sections : Sections) : Link → List Link → Type 0 where
  visits_end : {l : Link} → Ok None ≡ next_info_of s sections (reached_of l) → Visits s sections l []
  visits_on : {l m : Link} {ms : List Link} → Ok (Some (reached_of m)) ≡ next_info_of s sections (reached_of l) → Visits s sections m ms →
      Visits s sections l (m ∷ ms)

no_next : (s : List ℕ) (sections : Sections) (at : ReachedInfo) → length s ≤ file_limit → (f : Follows) → at.info.follows ≡ f
    → NotChained f → Ok None ≡ next_info_of s sections at
no_next s sections at b Nothing e h = next_nothing s sections at b e
no_next s sections at b (Chained r) e h = absurd h
no_next s sections at b (Handler y) e h = next_handler s sections at b e

visits : {s : List ℕ} {sections : Sections} {r : RuntimeFunction} {n : ℕ} (l : Link) (ls : List Link) → Chains s sections r n l ls
    → Visits s sections l ls
visits {s} {sections} {r} {n} l [] (last_info p h) =
    visits_end (no_next s sections (reached_of l) (located_told s sections r n p.place).0 l.info.follows refl h)
visits {s} {sections} {r} {n} l (m ∷ ms) (more_infos {e = e} p f h) =
    visits_on
    (next_info s sections (reached_of l) (located_told s sections r n p.place).0 f
    (reached_link s sections e (l.place.links + 1) m (head_of h)) refl)
    (visits {r = e} {n = l.place.links + 1} m ms h)

-- 12.6: The first info of a chain is the one that `first_info` reaches, and each other the one that `next_info` reaches from the one before
-- it.
pub chain_visited : (s : List ℕ) (sections : Sections) (r : RuntimeFunction) (c : Chain) → chain c ≡ chain_of s sections r
    → (Ok (reached_of c.found) ≡ first_info_of s sections r) × Visits s sections c.found c.outer
chain_visited s sections r c e =
    let h = chain_told s sections info_limit r 0 c e in
    (reached_link s sections r 0 c.found (head_of h), visits c.found c.outer h)

-- a record names an info by its own, even address
pub record Names (s : List ℕ) (sections : Sections) (r : RuntimeFunction) (o : ℕ) (i : UnwindInfo) (cs : List UnwindCode) : Type 0 where
  pub even : r.unwind % 2 ≡ 1 → ⊥
  pub place : Ok o ≡ find_offset_of s sections r.unwind
  pub whole : has i cs ≡ whole_info_at s o

-- `n` links lead from the record `r` to the record `e`: odd addresses and chained infos count alike
pub data Leads (s : List ℕ) (sections : Sections) : ℕ → RuntimeFunction → RuntimeFunction → Type 0 where
  at_once : {r : RuntimeFunction} → Leads s sections 0 r r
  by_odd : {n : ℕ} {r m e : RuntimeFunction} → r.unwind % 2 ≡ 1 → Ok m ≡ record_at_of s sections (r.unwind - 1) →
      Leads s sections n m e → Leads s sections (suc n) r e
  by_chain : {n o : ℕ} {i : UnwindInfo} {cs : List UnwindCode} {r m e : RuntimeFunction} → Names s sections r o i cs →
      i.follows ≡ Chained m → Leads s sections n m e → Leads s sections (suc n) r e

-- the info that a record names, after `n` links
abbrev pub named : RuntimeFunction → ℕ → UnwindInfo → List UnwindCode → ℕ → Link
named r o i cs n = record { place = record { begin = r.begin; offset = o; links = n }; info = i; codes = cs }

abbrev pub last_of : Link → List Link → Link
last_of l [] = l
last_of l (m ∷ ms) = last_of m ms

-- a chain with that last info
pub record EndsAt (x : ReadChain) (l : Link) : Type 0 where
  pub its : Chain
  pub is : chain its ≡ x
  pub last : last_of its.found its.outer ≡ l

ends_with : {x y : ReadChain} {l : Link} → EndsAt x l → x ≡ y → EndsAt y l
ends_with p e = record { its = p.its; is = p.is ∙ e; last = p.last }

ends_before : (m : Link) {x : ReadChain} {l : Link} → EndsAt x l → EndsAt (on_chain x refused_chain (λ a. chain (before m a))) l
ends_before m p =
    record {
      its = before m p.its;
      is = ap (λ (y : ReadChain). on_chain y refused_chain (λ a. chain (before m a))) p.is;
      last = p.last;
    }

module _ (s : List ℕ) (sections : Sections) (b : length s ≤ file_limit) where
  named_there : (n : ℕ) → n ≤ 32 → {r : RuntimeFunction} {o : ℕ} {i : UnwindInfo} {cs : List UnwindCode} → Names s sections r o i cs
      → Located s sections r n (named r o i cs n)
  named_there n h {r} {o} {i} {cs} d =
      let z : n + 0 ≡ n = omega arith in
      let p : Ok (named r o i cs n).place ≡ place_of s sections r n = place_there s sections r n d.place refl in
      let q : place_of s sections r (n + 0) ≡ locate_info_of s sections r n =
      places_pass s sections n 0 r r b (omega arith) no_odds d.even in
      record { place = p ∙ ap (place_of s sections r) (sym z) ∙ q; whole = d.whole }

  odd_link : (n : ℕ) → n < 32 → (r m : RuntimeFunction) → r.unwind % 2 ≡ 1 → Ok m ≡ record_at_of s sections (r.unwind - 1)
      → link_at s sections m (n + 1) ≡ link_at s sections r n
  unfolding link_at
  odd_link n h r m o e = rw (located_odd s sections r n b h o e)

  odd_chain : (n : ℕ) → n < 32 → (r m : RuntimeFunction) → r.unwind % 2 ≡ 1 → Ok m ≡ record_at_of s sections (r.unwind - 1)
      → chain_at s sections m (n + 1) ≡ chain_at s sections r n
  odd_chain n h r m o e =
      chain_at_lem s sections m (n + 1)
      ∙ ap (chain_by (λ x k. chain_at s sections x k)) (odd_link n h r m o e)
      ∙ sym (chain_at_lem s sections r n)

  chained_chain : (n : ℕ) → n ≤ 32 → {r m : RuntimeFunction} {o : ℕ} {i : UnwindInfo} {cs : List UnwindCode} → Names s sections r o i cs
      → i.follows ≡ Chained m
      → on_chain (chain_at s sections m (n + 1)) refused_chain (λ c. chain (before (named r o i cs n) c)) ≡ chain_at s sections r n
  chained_chain n h {r} {m} {o} {i} {cs} d f =
      rw (chain_at_lem s sections r n, ← located_link s sections r n (named_there n h d), f)

  refused_far : (n j : ℕ) {k : Refusal} {r e : RuntimeFunction} → j + n ≤ 32 → Leads s sections n r e
      → refused_chain k ≡ chain_at s sections e (j + n) → refused_chain k ≡ chain_at s sections r j
  refused_far zero j y at_once h = let z : j + 0 ≡ j = omega arith in rw z at h
  refused_far (suc n) j {r = r} y (by_odd {m = m} o g c) h =
      let z : j + suc n ≡ j + 1 + n = omega arith in
      refused_far n (j + 1) (omega arith) c (rw z at h) ∙ odd_chain j (omega arith) r m o g
  refused_far (suc n) j {k} {r} y (by_chain {o = o} {i = i} {cs = cs} {m = m} d f c) h =
      let z : j + suc n ≡ j + 1 + n = omega arith in
      ap (λ (x : ReadChain). on_chain x refused_chain (λ a. chain (before (named r o i cs j) a)))
      (refused_far n (j + 1) (omega arith) c (rw z at h))
      ∙ chained_chain j (omega arith) d f

  ends_far : (n j : ℕ) {l : Link} {r e : RuntimeFunction} → j + n ≤ 32 → Leads s sections n r e
      → EndsAt (chain_at s sections e (j + n)) l → EndsAt (chain_at s sections r j) l
  ends_far zero j y at_once h = let z : j + 0 ≡ j = omega arith in rw z at h
  ends_far (suc n) j {r = r} y (by_odd {m = m} o g c) h =
      let z : j + suc n ≡ j + 1 + n = omega arith in
      ends_with (ends_far n (j + 1) (omega arith) c (rw z at h)) (odd_chain j (omega arith) r m o g)
  ends_far (suc n) j {r = r} y (by_chain {o = o} {i = i} {cs = cs} {m = m} d f c) h =
      let z : j + suc n ≡ j + 1 + n = omega arith in
      ends_with (ends_before (named r o i cs j) (ends_far n (j + 1) (omega arith) c (rw z at h))) (chained_chain j (omega arith) d f)

  -- 12.4: Where 32 links or fewer lead to a record whose info is not chained, the chain ends with that info.
  pub thirty_two_pass : (n : ℕ) (r e : RuntimeFunction) (o : ℕ) (i : UnwindInfo) (cs : List UnwindCode) → n ≤ 32 → Leads s sections n r e
      → Names s sections e o i cs → NotChained i.follows → EndsAt (chain_of s sections r) (named e o i cs n)
  thirty_two_pass n r e o i cs h c d f =
      let z : 0 + n ≡ n = omega arith in
      let q = chain_of_lem s sections e n (named e o i cs n) [] (last_info (named_there n h d) f) in
      ends_far n 0 (omega arith) c (rw z (record { its = single (named e o i cs n); is = q; last = refl }))

  -- 12.4: After 32 links one more is 8: a record with an odd address, whatever it refers to ..
  pub thirty_third_odd : (r e : RuntimeFunction) → Leads s sections 32 r e → e.unwind % 2 ≡ 1
      → refused_chain (refuse_of links) ≡ chain_of s sections r
  thirty_third_odd r e c x =
      refused_far 32 0 (omega arith) c
      (ap (chain_by (λ y k. chain_at s sections y k))
      (link_unlocated s sections e 32 (place_refused s sections 32 0 e e b refl no_odds x) refl)
      ∙ sym (chain_at_lem s sections e 32))

  -- .. and one whose info is chained.
  pub thirty_third_chained : (r e m : RuntimeFunction) (o : ℕ) (i : UnwindInfo) (cs : List UnwindCode) → Leads s sections 32 r e
      → Names s sections e o i cs → i.follows ≡ Chained m → refused_chain (refuse_of links) ≡ chain_of s sections r
  thirty_third_chained r e m o i cs c d f =
      refused_far 32 0 (omega arith) c
      (ap (λ (x : ReadChain). on_chain x refused_chain (λ a. chain (before (named e o i cs 32) a)))
      (over s sections info_limit m 33 b (omega arith))
      ∙ chained_chain 32 (omega arith) d f)

  odd_self : (n : ℕ) (r : RuntimeFunction) → r.unwind % 2 ≡ 1 → Ok r ≡ record_at_of s sections (r.unwind - 1)
      → Leads s sections n r r
  odd_self zero r o e = at_once
  odd_self (suc n) r o e = by_odd o e (odd_self n r o e)

  chained_self : (n : ℕ) (r : RuntimeFunction) (o : ℕ) (i : UnwindInfo) (cs : List UnwindCode) → Names s sections r o i cs
      → i.follows ≡ Chained r → Leads s sections n r r
  chained_self zero r o i cs d f = at_once
  chained_self (suc n) r o i cs d f = by_chain d f (chained_self n r o i cs d f)

  -- 12.4: A record whose odd address refers to itself is 8 ..
  pub self_refused : (r : RuntimeFunction) → r.unwind % 2 ≡ 1 → Ok r ≡ record_at_of s sections (r.unwind - 1)
      → refused_chain (refuse_of links) ≡ chain_of s sections r
  self_refused r o e = thirty_third_odd r r (odd_self 32 r o e) o

  -- .. and so is one whose info is chained to a record that names that info.
  pub chained_self_refused : (q r : RuntimeFunction) (o : ℕ) (i : UnwindInfo) (cs : List UnwindCode) → Names s sections q o i cs
      → Names s sections r o i cs → i.follows ≡ Chained r → refused_chain (refuse_of links) ≡ chain_of s sections q
  chained_self_refused q r o i cs d e f = thirty_third_chained q r r o i cs (by_chain d f (chained_self 31 r o i cs e f)) e f

many_from : (frame : Frame) (prolog : ℕ) (found first : Bool) (cs : List UnwindCode) (ds : List ChainCode)
    → length (codes_from frame prolog found first cs ++ ds) ≡ length cs + length ds
many_from frame prolog found first [] ds = omega arith
many_from frame prolog found first (c ∷ cs) ds = let e = many_from frame prolog found false cs ds in omega (arith, e)

many_joined : (found : Bool) (a : CodeArray) (ds : List ChainCode) → length (codes_in found a ++ ds) ≡ length a.codes + length ds
many_joined found a ds = many_from a.frame a.prolog found true a.codes ds

many_outer : (ls : List Link) → length (outer_codes (arrays_of_links ls)) ≡ codes_of_all ls
many_outer [] = refl
many_outer (l ∷ ls) = many_joined false (array_of l) (outer_codes (arrays_of_links ls)) ∙ ap (λ (n : ℕ). length l.codes + n) (many_outer ls)

-- 12.10: The number of codes that is counted is that of the one list.
pub count_joined : (c : Chain) → length (joined_of (arrays_of c)) ≡ codes_of_all (c.found ∷ c.outer)
unfolding joined_of
count_joined c =
    many_joined true (array_of c.found) (outer_codes (arrays_of_links c.outer))
    ∙ ap (λ (n : ℕ). length c.found.codes + n) (many_outer c.outer)

-- Two answers that meet a promise of this crate are equal.
pub count_all_codes_unique : (s : List ℕ) (sections : Sections) (r : RuntimeFunction) {x y : Result Totals Refusal}
    → x ≡ count_all_codes_of s sections r
    → y ≡ count_all_codes_of s sections r → x ≡ y
count_all_codes_unique s sections r = same

pub start_chain_unique : (s : List ℕ) (sections : Sections) (r : RuntimeFunction) {x y : Result ChainStart Refusal} → x ≡ start_chain_of s sections r
    → y ≡ start_chain_of s sections r → x ≡ y
start_chain_unique s sections r = same

pub next_chain_code_unique : (s : List ℕ) (sections : Sections) (k : ChainCursor) {x y : Result NextChainCode Refusal} → x ≡ next_chain_code_of s sections k
    → y ≡ next_chain_code_of s sections k → x ≡ y
next_chain_code_unique s sections k = same

-- Each answer has as many numbers as it says, zeros where it is refused.
pub count_all_codes_count : (a : Result Totals Refusal) → length (values count_count_all_codes (answer_count_all_codes a)) ≡ count_count_all_codes
count_all_codes_count (Ok t) = refl
count_all_codes_count (Err k) = refl

-- The numbers that it stands for are fixed.
pub numbers_unique : (a : Totals) {r q : List ℕ} → r ≡ totals_numbers a → q ≡ totals_numbers a → r ≡ q
numbers_unique a = same
