-- What is proved of links, for every input. That a function answers its definition is its contract (src/lib.rt).
-- Assumes nothing.
use Rattle.unwind_links.specs.declared.InfoPlace.{InfoPlace}
use Rattle.std.specs.Prelude.{Result, Ok, Err, Option, Some, None, ℕ, List, ◌≡◌}
use Rattle.answer.specs.declared.Refusal.{Refusal}
use mathlib.Core.Path.{◌≡◌, refl, sym, ap, ◌∙◌}
use mathlib.Core.List.{List}
use Prim.Native.Nat.{ℕ, zero, suc, ◌+◌, ◌-◌, ◌%◌, ◌≤◌}
use native.Mathlib.Omega.{arith}
use lib.ListN.{length}
use Rattle.answer.specs.Answer.{values, refuse_of, links}
use Rattle.answer.specs.Test.{file_limit}
use Rattle.answer.proofs.Unique.{same}
use Rattle.runtime_function.specs.declared.RuntimeFunction.{RuntimeFunction}
use Rattle.pe_mapping.specs.Mapping.{find_offset_of}
use Rattle.pe_mapping.specs.declared.Sections.{Sections}
use Rattle.unwind_info.specs.Unwind.{read_info_of}
use Rattle.unwind_info.specs.declared.UnwindInfo.{UnwindInfo}
use Rattle.unwind_info.specs.declared.Follows.TheVariants.{Chained}
use Rattle.unwind_info.proofs.Theorems.{follows_count}
use Rattle.unwind_links.specs.Links.{link_limit, record_at_of, place_of, locate_from, locate_info_of, info_at, first_info_of, chained_info_of, next_info_of}
use Rattle.unwind_links.specs.Answers.{answer_locate_info, count_locate_info, answer_reach_info, count_reach_info, answer_next_info, count_next_info, reached_numbers}
use Rattle.unwind_links.specs.declared.ReachedInfo.{ReachedInfo}
use Rattle.unwind_links.proofs.Laws.{place_there, locate_even, locate_none, locate_on, located_from, info_unlocated, info_there, chained_over, next_info, next_refused}

-- `n` odd addresses lead from the record `r` to the record `e`
pub data Odds (s : List ℕ) (sections : Sections) : ℕ → RuntimeFunction → RuntimeFunction → Type 0 where
  at_once : {r : RuntimeFunction} → Odds s sections 0 r r
  by_odd : {n : ℕ} {r m e : RuntimeFunction} → r.unwind % 2 ≡ 1 → Ok m ≡ record_at_of s sections (r.unwind - 1) →
      Odds s sections n m e → Odds s sections (suc n) r e

locate_odds : (s : List ℕ) (sections : Sections) (n left : ℕ) {r e : RuntimeFunction} → Odds s sections n r e
    → locate_from left s sections e ≡ locate_from (n + left) s sections r
locate_odds s sections zero left at_once = let z : 0 + left ≡ left = omega arith in rw z
locate_odds s sections (suc n) left {r} {e} (by_odd {m = m} o g c) =
    let z : suc n + left - 1 ≡ n + left = omega arith in
    let p : suc n + left ≡ 0 → ⊥ = λ q. omega arith in
    locate_odds s sections n left c
    ∙ ap (λ (k : ℕ). locate_from k s sections m) (sym z)
    ∙ locate_on s sections (suc n + left) r o p g refl

-- 12.4: Where `n` odd addresses lead to a record whose own address is even, and `m` links led here before, with at most 32 in all, the info
-- is where that record names it.
pub thirty_two_pass : (s : List ℕ) (sections : Sections) (m n : ℕ) (r e : RuntimeFunction) → length s ≤ file_limit → m + n ≤ 32
    → Odds s sections n r e → (e.unwind % 2 ≡ 1 → ⊥) → place_of s sections e (m + n) ≡ locate_info_of s sections r m
thirty_two_pass s sections m n r e l h c x =
    let a : n + (link_limit - m - n) ≡ link_limit - m = omega arith in
    let b : link_limit - (link_limit - m - n) ≡ m + n = omega arith in
    located_from s sections r m l (omega arith)
    (locate_even s sections (link_limit - m - n) e x (ap (place_of s sections e) (sym b))
    ∙ locate_odds s sections n (link_limit - m - n) c
    ∙ ap (λ (k : ℕ). locate_from k s sections r) a)

-- 12.4: A link after 32 is 8, whatever it refers to.
pub thirty_three_refused : (s : List ℕ) (sections : Sections) (m n : ℕ) (r e : RuntimeFunction) → length s ≤ file_limit → m + n ≡ 32
    → Odds s sections n r e → e.unwind % 2 ≡ 1 → Err (refuse_of links) ≡ locate_info_of s sections r m
thirty_three_refused s sections m n r e l h c x =
    let a : n + 0 ≡ link_limit - m = omega arith in
    located_from s sections r m l (omega arith)
    (locate_none s sections 0 e x refl refl
    ∙ locate_odds s sections n 0 c
    ∙ ap (λ (k : ℕ). locate_from k s sections r) a)

-- .. so the first info is the one of the record that at most 32 odd addresses lead to ..
pub first_passes : (s : List ℕ) (sections : Sections) (n : ℕ) (r e : RuntimeFunction) → length s ≤ file_limit → n ≤ 32
    → Odds s sections n r e → (e.unwind % 2 ≡ 1 → ⊥) → info_at s (place_of s sections e n) ≡ first_info_of s sections r
first_passes s sections n r e l h c x =
    let z : 0 + n ≡ n = omega arith in
    ap (info_at s) (ap (place_of s sections e) (sym z) ∙ thirty_two_pass s sections 0 n r e l (omega arith) c x)

-- .. and 8 where there is one more.
pub first_refused : (s : List ℕ) (sections : Sections) (r e : RuntimeFunction) → length s ≤ file_limit → Odds s sections 32 r e
    → e.unwind % 2 ≡ 1 → Err (refuse_of links) ≡ first_info_of s sections r
first_refused s sections r e l c x = info_unlocated s (sym (thirty_three_refused s sections 0 32 r e l refl c x))

self_odds : (s : List ℕ) (sections : Sections) (n : ℕ) (r : RuntimeFunction) → r.unwind % 2 ≡ 1
    → Ok r ≡ record_at_of s sections (r.unwind - 1) → Odds s sections n r r
self_odds s sections zero r o e = at_once
self_odds s sections (suc n) r o e = by_odd o e (self_odds s sections n r o e)

-- 12.4: A record whose odd address refers to itself is 8.
pub self_refused : (s : List ℕ) (sections : Sections) (r : RuntimeFunction) → length s ≤ file_limit → r.unwind % 2 ≡ 1
    → Ok r ≡ record_at_of s sections (r.unwind - 1) → Err (refuse_of links) ≡ first_info_of s sections r
self_refused s sections r l o e = first_refused s sections r r l (self_odds s sections 32 r o e) o

-- 12.9: A chained info after 32 links is 8, whatever it is chained to.
pub chained_refused : (s : List ℕ) (sections : Sections) (at : ReachedInfo) (r : RuntimeFunction) → length s ≤ file_limit
    → at.info.follows ≡ Chained r → link_limit ≤ at.place.links → Err (refuse_of links) ≡ next_info_of s sections at
chained_refused s sections at r l e h =
    next_refused s sections at l e (chained_over s sections r at.place.links l h refl) refl

-- `n` times the next info leads from an info to another
pub data Nexts (s : List ℕ) (sections : Sections) : ℕ → ReachedInfo → ReachedInfo → Type 0 where
  none : {at : ReachedInfo} → Nexts s sections 0 at at
  more : {n : ℕ} {at m there : ReachedInfo} → Ok (Some m) ≡ next_info_of s sections at → Nexts s sections n m there →
      Nexts s sections (suc n) at there

-- the info at an offset, which a record names, after so many links
abbrev pub reached_by : RuntimeFunction → ℕ → UnwindInfo → ℕ → ReachedInfo
reached_by r o i n = record { place = record { begin = r.begin; offset = o; links = n }; info = i }

-- an info that is chained to a record which names that info itself
pub record ChainedToItself (s : List ℕ) (sections : Sections) (r : RuntimeFunction) (o : ℕ) (i : UnwindInfo) : Type 0 where
  pub chained : i.follows ≡ Chained r
  pub even : r.unwind % 2 ≡ 1 → ⊥
  pub place : Ok o ≡ find_offset_of s sections r.unwind
  pub read : Ok i ≡ read_info_of s o

-- `n` next infos, and then 8
pub record EndsWith8 (s : List ℕ) (sections : Sections) (n : ℕ) (at : ReachedInfo) : Type 0 where
  pub last : ReachedInfo
  pub leads : Nexts s sections n at last
  pub refused : Err (refuse_of links) ≡ next_info_of s sections last

-- The record names its info, after `n` links.
pub names_itself : (s : List ℕ) (sections : Sections) (r : RuntimeFunction) (o : ℕ) (i : UnwindInfo) (n : ℕ) → length s ≤ file_limit
    → ChainedToItself s sections r o i → n ≤ 32 → Ok (reached_by r o i n) ≡ info_at s (locate_info_of s sections r n)
names_itself s sections r o i n l c h =
    let z : n + 0 ≡ n = omega arith in
    let p : Ok (reached_by r o i n).place ≡ place_of s sections r n = place_there s sections r n c.place refl in
    let q : place_of s sections r (n + 0) ≡ locate_info_of s sections r n =
    thirty_two_pass s sections n 0 r r l (omega arith) at_once c.even in
    info_there s (sym (p ∙ ap (place_of s sections r) (sym z) ∙ q)) c.read refl

-- 12.4: A chained info that leads to itself is 8, after the links that are left.
pub chained_self_refused : (s : List ℕ) (sections : Sections) (r : RuntimeFunction) (o : ℕ) (i : UnwindInfo) → length s ≤ file_limit
    → ChainedToItself s sections r o i
    → (n : ℕ) (at : ReachedInfo) → at.info ≡ i → at.place.links + n ≡ 32 → EndsWith8 s sections n at
chained_self_refused s sections r o i l c zero at e h =
    record {
      last = at;
      leads = none;
      refused = chained_refused s sections at r l (ap (λ (j : UnwindInfo). j.follows) e ∙ c.chained) (omega arith);
    }
chained_self_refused s sections r o i l c (suc n) at e h =
    let k = at.place.links in
    let y : k + 1 ≤ 32 = omega arith in
    let x : k + 1 + n ≡ 32 = omega arith in
    let f = chained_self_refused s sections r o i l c n (reached_by r o i (k + 1)) refl x in
    record {
      last = f.last;
      leads = more
          (next_info s sections at l (ap (λ (j : UnwindInfo). j.follows) e ∙ c.chained) (names_itself s sections r o i (k + 1) l c y) refl)
          f.leads;
      refused = f.refused;
    }

-- Two answers that meet a promise of this crate are equal.
pub first_info_unique : (s : List ℕ) (sections : Sections) (r : RuntimeFunction) {x y : Result ReachedInfo Refusal} → x ≡ first_info_of s sections r
    → y ≡ first_info_of s sections r → x ≡ y
first_info_unique s sections r = same

pub next_info_unique : (s : List ℕ) (sections : Sections) (here : ReachedInfo) {x y : Result (Option ReachedInfo) Refusal} → x ≡ next_info_of s sections here
    → y ≡ next_info_of s sections here → x ≡ y
next_info_unique s sections here = same

pub chained_info_unique : (s : List ℕ) (sections : Sections) (r : RuntimeFunction) (n : ℕ) {x y : Result ReachedInfo Refusal}
    → x ≡ chained_info_of s sections r n → y ≡ chained_info_of s sections r n → x ≡ y
chained_info_unique s sections r n = same

pub locate_info_unique : (s : List ℕ) (sections : Sections) (r : RuntimeFunction) (n : ℕ) {x y : Result InfoPlace Refusal}
    → x ≡ locate_info_of s sections r n → y ≡ locate_info_of s sections r n → x ≡ y
locate_info_unique s sections r n = same

pub record_at_unique : (s : List ℕ) (sections : Sections) (address : ℕ) {x y : Result RuntimeFunction Refusal} → x ≡ record_at_of s sections address
    → y ≡ record_at_of s sections address → x ≡ y
record_at_unique s sections address = same

-- Each answer has as many numbers as it says, zeros where it is refused.
pub locate_info_count : (a : Result InfoPlace Refusal) → length (values count_locate_info (answer_locate_info a)) ≡ count_locate_info
locate_info_count (Ok p) = refl
locate_info_count (Err k) = refl

pub reach_info_count : (a : Result ReachedInfo Refusal) → length (values count_reach_info (answer_reach_info a)) ≡ count_reach_info
reach_info_count (Ok r) = omega (arith, follows_count r.info.follows)
reach_info_count (Err k) = refl

pub next_info_count : (a : Result (Option ReachedInfo) Refusal) → length (values count_next_info (answer_next_info a)) ≡ count_next_info
next_info_count (Ok (Some r)) = omega (arith, follows_count r.info.follows)
next_info_count (Ok None) = refl
next_info_count (Err k) = refl

-- The numbers that it stands for are fixed.
pub numbers_unique : (a : ReachedInfo) {r q : List ℕ} → r ≡ reached_numbers a → q ≡ reached_numbers a → r ≡ q
numbers_unique a = same
