-- The laws of links, one for each outcome: what the proofs of this crate and of its callers cite.
-- Assumes nothing.
use Rattle.std.specs.Prelude.{Result, Ok, Err, Some, None, ℕ}
use Rattle.answer.specs.Answer.{on_ok, refuse_of, limit, links}
use mathlib.Core.Path.{◌≡◌, refl, sym, ap, ◌∙◌}
use mathlib.Core.List.{List}
use mathlib.Core.Bool.{Bool, true, false}
use Prim.Native.Nat.{ℕ, min, zero, suc, ◌+◌, ◌-◌, ◌%◌, ◌≤◌, ◌<◌}
use native.Mathlib.Omega.{arith}
use lib.ListN.{length}
use borrow.Author.Tests.{le-leb, lt-leb, leb-true, eq-eqb, ne_eqb}
use mathlib.Core.Logic.{⊎_elim}
use Rattle.fields.proofs.Laws.{le_or_lt}
use Rattle.answer.specs.Test.{pick, must, file_limit}
use Rattle.answer.specs.declared.Reason.{Reason}
use Rattle.answer.specs.declared.Refusal.{Refusal}
use Rattle.answer.proofs.Laws.{must_on, must_off}
use Rattle.runtime_function.specs.RuntimeFunction.{read_of}
use Rattle.runtime_function.specs.declared.RuntimeFunction.{RuntimeFunction}
use Rattle.pe_mapping.specs.Mapping.{find_offset_of}
use Rattle.pe_mapping.specs.declared.Sections.{Sections}
use Rattle.unwind_info.specs.Unwind.{read_info_of}
use Rattle.unwind_info.specs.declared.UnwindInfo.{UnwindInfo}
use Rattle.unwind_info.specs.declared.UnwindHandler.{UnwindHandler}
use Rattle.unwind_info.specs.declared.Follows.{Follows}
use Rattle.unwind_info.specs.declared.Follows.TheVariants.{Nothing, Chained, Handler}
use Rattle.unwind_links.specs.Links.{link_limit, is_odd, record_at_of, place_of, locate_from, locate_info_of, info_at, chained_info_of, next_info_of}
use Rattle.unwind_links.specs.declared.InfoPlace.{InfoPlace}
use Rattle.unwind_links.specs.declared.ReachedInfo.{ReachedInfo}

-- the record at an address
module _ (s : List ℕ) (sections : Sections) (address : ℕ) {m : Result ℕ Refusal} (e : m ≡ find_offset_of s sections address) where
  pub record_unmapped : {k : Refusal} → m ≡ Err k → Err k ≡ record_at_of s sections address
  unfolding record_at_of
  record_unmapped f = rw (← e, f)

  pub record_read : {o : ℕ} {x : Result RuntimeFunction Refusal} → m ≡ Ok o → x ≡ read_of s o → x ≡ record_at_of s sections address
  unfolding record_at_of
  record_read f d = rw (← e, f) d

-- where the info is that a record names itself
module _ (s : List ℕ) (sections : Sections) (r : RuntimeFunction) (n : ℕ) {m : Result ℕ Refusal}
    (e : m ≡ find_offset_of s sections r.unwind) where
  pub place_unmapped : {k : Refusal} → m ≡ Err k → Err k ≡ place_of s sections r n
  unfolding place_of
  place_unmapped f = rw (← e, f)

  pub place_there : {o : ℕ} → m ≡ Ok o
      → Ok (record { begin = r.begin; offset = o; links = n }) ≡ place_of s sections r n
  unfolding place_of
  place_there f = rw (← e, f)

even_of : (s : List ℕ) (sections : Sections) (left : ℕ) (r : RuntimeFunction) → (r.unwind % 2 ≡ 1 → ⊥)
    → place_of s sections r (link_limit - left) ≡ locate_from left s sections r
unfolding locate_from
even_of s sections zero r e = rw (ne_eqb (r.unwind % 2) 1 e)
even_of s sections (suc left) r e = rw (ne_eqb (r.unwind % 2) 1 e)

odd_of : (s : List ℕ) (sections : Sections) (left : ℕ) (r : RuntimeFunction) → r.unwind % 2 ≡ 1 → (left ≡ 0 → ⊥)
    → on_ok (record_at_of s sections (r.unwind - 1)) Err (λ e. locate_from (left - 1) s sections e)
    ≡ locate_from left s sections r
unfolding locate_from
odd_of s sections zero r o p = absurd (p refl)
odd_of s sections (suc left) r o p =
    let n : suc left - 1 ≡ left = omega arith in
    rw (eq-eqb (r.unwind % 2) 1 o, n)

-- following odd addresses, `left` links at most
module _ (s : List ℕ) (sections : Sections) (left : ℕ) (r : RuntimeFunction) where
  pub locate_even : {x : Result InfoPlace Refusal} → (r.unwind % 2 ≡ 1 → ⊥) → x ≡ place_of s sections r (link_limit - left)
      → x ≡ locate_from left s sections r
  locate_even e d = d ∙ even_of s sections left r e

  pub locate_none : {q : Refusal} → r.unwind % 2 ≡ 1 → left ≡ 0 → q ≡ refuse_of links → Err q ≡ locate_from left s sections r
  unfolding locate_from
  locate_none o z d = rw (z, eq-eqb (r.unwind % 2) 1 o, d)

  module _ (o : r.unwind % 2 ≡ 1) (p : left ≡ 0 → ⊥) {q : Result RuntimeFunction Refusal} (e : q ≡ record_at_of s sections (r.unwind - 1)) where
    pub locate_refused : {k : Refusal} → q ≡ Err k → Err k ≡ locate_from left s sections r
    locate_refused f = rw (← odd_of s sections left r o p, ← e, f)

    pub locate_on : {n : RuntimeFunction} → q ≡ Ok n → locate_from (left - 1) s sections n ≡ locate_from left s sections r
    locate_on f = rw (← odd_of s sections left r o p, ← e, f)

-- where the info of a record is, to which `n` links have led
module _ (s : List ℕ) (sections : Sections) (r : RuntimeFunction) (n : ℕ) where
  pub located_long : {q : Refusal} → file_limit < length s → q ≡ refuse_of limit → Err q ≡ locate_info_of s sections r n
  unfolding locate_info_of
  located_long l d = must_off Err _ _ _ (lt-leb _ _ l) d

  module _ (l : length s ≤ file_limit) where
    pub located_over : {q : Refusal} → link_limit < n → q ≡ refuse_of links → Err q ≡ locate_info_of s sections r n
    unfolding locate_info_of
    located_over h d = must_on Err _ _ _ (le-leb _ _ l) (must_off Err _ _ _ (lt-leb _ _ h) d)

    pub located_from : {x : Result InfoPlace Refusal} → n ≤ link_limit → x ≡ locate_from (link_limit - n) s sections r → x ≡ locate_info_of s sections r n
    unfolding locate_info_of
    located_from h d = must_on Err _ _ _ (le-leb _ _ l) (must_on Err _ _ _ (le-leb _ _ h) d)

-- an odd address is a link like another: where the info is, to which `n` links have led, and one more by the address
pub located_odd : (s : List ℕ) (sections : Sections) (r : RuntimeFunction) (n : ℕ) → length s ≤ file_limit → n < link_limit
    → r.unwind % 2 ≡ 1
    → {m : RuntimeFunction} → Ok m ≡ record_at_of s sections (r.unwind - 1)
    → locate_info_of s sections m (n + 1) ≡ locate_info_of s sections r n
located_odd s sections r n l h o {m} e =
    let z : link_limit - (n + 1) ≡ link_limit - n - 1 = omega arith in
    let p : link_limit - n ≡ 0 → ⊥ = λ q. omega arith in
    sym (located_from s sections m (n + 1) l (omega arith) refl)
    ∙ ap (λ (k : ℕ). locate_from k s sections m) z
    ∙ located_from s sections r n l (omega arith) (locate_on s sections (link_limit - n) r o p e refl)

same_place : {p q : InfoPlace} → ◌≡◌ {A = Result InfoPlace Refusal} (Ok p) (Ok q) → p ≡ q
same_place e = cc

no_place : {p : InfoPlace} {k : Refusal} → ◌≡◌ {A = Result InfoPlace Refusal} (Ok p) (Err k) → ⊥
no_place e = let z : ◌≡◌ {A = ℕ} 0 1 = cc in omega arith

-- a place to which `n` links have led or more, and 32 at most
pub record Within (n : ℕ) (p : InfoPlace) : Type 0 where
  pub least : n ≤ p.links
  pub most : p.links ≤ link_limit

place_by : (m : Result ℕ Refusal) (begin n : ℕ) → n ≤ link_limit → {p : InfoPlace}
    → Ok p ≡ on_ok m Err (λ o. Ok (record { begin = begin; offset = o; links = n })) → Within n p
place_by (Ok o) begin n h e =
    let f = ap (λ (q : InfoPlace). q.links) (same_place e) in
    record { least = omega arith; most = omega arith }
place_by (Err k) begin n h e = absurd (no_place e)

place_within : (s : List ℕ) (sections : Sections) (r : RuntimeFunction) (n : ℕ) → n ≤ link_limit → {p : InfoPlace}
    → Ok p ≡ place_of s sections r n → Within n p
unfolding place_of
place_within s sections r n h e = place_by (find_offset_of s sections r.unwind) r.begin n h e

module _ {p : InfoPlace} where
  by_none : (test : Bool) (k : Refusal) (y : Result InfoPlace Refusal) → Ok p ≡ pick test (Err k) y → Ok p ≡ y
  by_none true k y e = absurd (no_place e)
  by_none false k y e = e

  by_record : (q : Result RuntimeFunction Refusal) (on : RuntimeFunction → Result InfoPlace Refusal) {n : ℕ}
      → ((e : RuntimeFunction) → Ok p ≡ on e → Within (n + 1) p)
      → Ok p ≡ on_ok q Err on → Within n p
  by_record (Ok m) on f e = let w = f m e in record { least = omega (arith, w.least); most = w.most }
  by_record (Err k) on f e = absurd (no_place e)

  by_test : (test : Bool) (x y : Result InfoPlace Refusal) {n : ℕ} → (Ok p ≡ x → Within n p) → (Ok p ≡ y → Within n p)
      → Ok p ≡ pick test x y → Within n p
  by_test true x y f g e = f e
  by_test false x y f g e = g e

  from_within : (s : List ℕ) (sections : Sections) (left : ℕ) (r : RuntimeFunction) → left ≤ link_limit
      → Ok p ≡ locate_from left s sections r → Within (link_limit - left) p
  unfolding locate_from
  from_within s sections zero r h e = place_within s sections r link_limit (omega arith) (by_none (is_odd r) _ _ e)
  from_within s sections (suc left) r h e =
      let z : link_limit - suc left + 1 ≡ link_limit - left = omega arith in
      by_test (is_odd r) _ _
      (by_record (record_at_of s sections (r.unwind - 1)) (λ m. locate_from left s sections m)
      (λ m f. rw z (from_within s sections left m (omega arith) f)))
      (place_within s sections r (link_limit - suc left) (omega arith))
      e

  by_must : (test : Bool) (why : Reason) (x : Result InfoPlace Refusal) → Ok p ≡ must Err test why x
      → (test ≡ true) × (Ok p ≡ x)
  unfolding must
  by_must true why x e = (refl, e)
  by_must false why x e = absurd (no_place e)

-- where an info is located, the file is not too long, and the links that led there are those before it or more, and 32 at most
pub located_told : (s : List ℕ) (sections : Sections) (r : RuntimeFunction) (n : ℕ) {p : InfoPlace}
    → Ok p ≡ locate_info_of s sections r n → (length s ≤ file_limit) × Within n p
unfolding locate_info_of
located_told s sections r n {p} e =
    let a = by_must _ _ _ e in
    let b = by_must _ _ _ a.1 in
    let h : n ≤ link_limit = leb-true n link_limit b.0 in
    let z : link_limit - (link_limit - n) ≡ n = omega arith in
    (leb-true (length s) file_limit a.0, rw z at (from_within s sections (link_limit - n) r (omega arith) b.1))

-- the info at a place
module _ (s : List ℕ) {m : Result InfoPlace Refusal} where
  pub info_unlocated : {k : Refusal} → m ≡ Err k → Err k ≡ info_at s m
  unfolding info_at
  info_unlocated f = rw f

  module _ {p : InfoPlace} (f : m ≡ Ok p) {x : Result UnwindInfo Refusal} (e : x ≡ read_info_of s p.offset) where
    pub info_refused : {k : Refusal} → x ≡ Err k → Err k ≡ info_at s m
    unfolding info_at
    info_refused g = rw (f, ← e, g)

    pub info_there : {i : UnwindInfo} → x ≡ Ok i → Ok (record { place = p; info = i }) ≡ info_at s m
    unfolding info_at
    info_there g = rw (f, ← e, g)

same_reached : {y x : ReachedInfo} → ◌≡◌ {A = Result ReachedInfo Refusal} (Ok y) (Ok x) → y ≡ x
same_reached e = cc

never_reached : {y : ReachedInfo} {k : Refusal} → ◌≡◌ {A = Result ReachedInfo Refusal} (Ok y) (Err k) → ⊥
never_reached e = let z : ◌≡◌ {A = ℕ} 0 1 = cc in omega arith

-- where an info was reached, its place was located, and it is the one there
pub record Reached (s : List ℕ) (m : Result InfoPlace Refusal) (y : ReachedInfo) : Type 0 where
  pub place : Ok y.place ≡ m
  pub read : Ok y.info ≡ read_info_of s y.place.offset

told_read : (s : List ℕ) (p : InfoPlace) (x : Result UnwindInfo Refusal) → x ≡ read_info_of s p.offset → {y : ReachedInfo}
    → Ok y ≡ on_ok x Err (λ i. Ok (record { place = p; info = i })) → Reached s (Ok p) y
told_read s p (Ok i) d e = rw (same_reached e) (record { place = refl; read = d })
told_read s p (Err k) d e = absurd (never_reached e)

pub reached_told : (s : List ℕ) (m : Result InfoPlace Refusal) {y : ReachedInfo} → Ok y ≡ info_at s m → Reached s m y
unfolding info_at
reached_told s (Ok p) e = told_read s p (read_info_of s p.offset) refl e
reached_told s (Err k) e = absurd (never_reached e)

-- the info of the record that an info is chained to; more links than the limit are all alike
module _ (s : List ℕ) (sections : Sections) (r : RuntimeFunction) (n : ℕ) where
  pub chained_over : {q : Refusal} → length s ≤ file_limit → link_limit ≤ n → q ≡ refuse_of links
      → Err q ≡ chained_info_of s sections r n
  chained_over l h d = info_unlocated s (sym (located_over s sections r (n + 1) l (omega arith) d))

  both_over : (m : ℕ) → link_limit < m → link_limit < n + 1 → locate_info_of s sections r m ≡ locate_info_of s sections r (n + 1)
  both_over m h k =
      ⊎_elim
      (λ (l : length s ≤ file_limit). sym (located_over s sections r m l h refl) ∙ located_over s sections r (n + 1) l k refl)
      (λ (l : file_limit < length s). sym (located_long s sections r m l refl) ∙ located_long s sections r (n + 1) l refl)
      (le_or_lt (length s) file_limit)

  -- a link more, or more links than the limit where one more would not fit
  pub one_more : {m : ℕ} {x : Result InfoPlace Refusal} → m ≡ min (n + 1) 0xFFFF_FFFF_FFFF_FFFF → x ≡ locate_info_of s sections r m
      → locate_info_of s sections r (n + 1) ≡ x
  one_more {m} h e =
      ⊎_elim
      (λ (k : n + 1 ≤ 0xFFFF_FFFF_FFFF_FFFF).
      let q : m ≡ n + 1 = omega arith in sym (e ∙ ap (locate_info_of s sections r) q))
      (λ (k : 0xFFFF_FFFF_FFFF_FFFF < n + 1). sym (e ∙ both_over m (omega arith) (omega arith)))
      (le_or_lt (n + 1) 0xFFFF_FFFF_FFFF_FFFF)

-- the next info
module _ (s : List ℕ) (sections : Sections) (here : ReachedInfo) where
  pub next_long : {q : Refusal} → file_limit < length s → q ≡ refuse_of limit → Err q ≡ next_info_of s sections here
  unfolding next_info_of
  next_long l d = must_off Err _ _ _ (lt-leb _ _ l) d

  module _ (l : length s ≤ file_limit) where
    pub next_nothing : here.info.follows ≡ Nothing → Ok None ≡ next_info_of s sections here
    unfolding next_info_of
    next_nothing e = must_on Err _ _ _ (le-leb _ _ l) (rw e)

    pub next_handler : {h : UnwindHandler} → here.info.follows ≡ Handler h → Ok None ≡ next_info_of s sections here
    unfolding next_info_of
    next_handler e = must_on Err _ _ _ (le-leb _ _ l) (rw e)

    next_by : (f : Follows) → here.info.follows ≡ f → ((r : RuntimeFunction) → f ≡ Chained r → ⊥) → Ok None ≡ next_info_of s sections here
    next_by Nothing e n = next_nothing e
    next_by (Chained r) e n = absurd (n r refl)
    next_by (Handler h) e n = next_handler e

    pub next_none : ((r : RuntimeFunction) → here.info.follows ≡ Chained r → ⊥) → Ok None ≡ next_info_of s sections here
    next_none n = next_by here.info.follows refl n

    module _ {r : RuntimeFunction} (e : here.info.follows ≡ Chained r) {x : Result ReachedInfo Refusal}
        (f : x ≡ chained_info_of s sections r here.place.links) where
      pub next_info : {there : ReachedInfo} → x ≡ Ok there → Ok (Some there) ≡ next_info_of s sections here
      unfolding next_info_of
      next_info d = must_on Err _ _ _ (le-leb _ _ l) (rw (e, ← f, d))

      pub next_refused : {k : Refusal} → x ≡ Err k → Err k ≡ next_info_of s sections here
      unfolding next_info_of
      next_refused d = must_on Err _ _ _ (le-leb _ _ l) (rw (e, ← f, d))
