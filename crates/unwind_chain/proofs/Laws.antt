-- The laws of a chain: what the proofs of this crate and of its callers cite.
-- Assumes nothing.
use Rattle.std.specs.Prelude.{Result, Ok, Err, Option, Some, None}
use Rattle.answer.specs.Answer.{on_ok, refuse_of, links}
use mathlib.Core.Path.{◌≡◌, refl, sym, ap, ◌∙◌}
use mathlib.Core.List.{List, ◌∷◌}
use Prim.Native.Nat.{ℕ, zero, suc, ◌+◌, ◌≤◌, ◌<◌}
use native.Mathlib.Omega.{arith}
use lib.ListN.{length}
use Rattle.answer.specs.Test.{file_limit}
use Rattle.answer.specs.declared.Refusal.{Refusal}
use Rattle.runtime_function.specs.declared.RuntimeFunction.{RuntimeFunction}
use Rattle.pe_mapping.specs.declared.Sections.{Sections}
use Rattle.unwind_operation.specs.declared.UnwindCode.{UnwindCode}
use Rattle.unwind_info.specs.declared.UnwindInfo.{UnwindInfo}
use Rattle.unwind_info.specs.declared.Follows.{Follows}
use Rattle.unwind_info.specs.declared.Follows.TheVariants.{Nothing, Chained, Handler}
use Rattle.unwind_codes.specs.Codes.{WholeInfo, has, refused_whole, on_whole_info, whole_info_at, check_info_of}
use Rattle.unwind_codes.specs.declared.CheckedInfo.{CheckedInfo}
use Rattle.unwind_codes.proofs.Laws.{checked_told, checked_refused}
use Rattle.unwind_codes.proofs.Theorems.{whole_most}
use Rattle.unwind_links.specs.Links.{link_limit, locate_info_of, on_chained}
use Rattle.unwind_links.specs.declared.InfoPlace.{InfoPlace}
use Rattle.unwind_links.proofs.Laws.{Within, located_told, located_over}
use Rattle.unwind_chain.specs.Chain.{Link, ReadLink, link, refused_link, on_link, link_at, Chain, ReadChain, chain, refused_chain, on_chain, single, before, chain_from, info_limit, last_links, codes_of_all, totals_of}
use Rattle.unwind_chain.specs.Code.{linked_of}
use Rattle.unwind_chain.specs.declared.Linked.{Linked}
use Rattle.unwind_chain.specs.declared.Totals.{Totals}

-- the info of a record, a law for each outcome
module _ (s : List ℕ) (sections : Sections) (r : RuntimeFunction) (n : ℕ) {m : Result InfoPlace Refusal} (e : m ≡ locate_info_of s sections r n) where
  pub link_unlocated : {k : Refusal} → m ≡ Err k → refused_link k ≡ link_at s sections r n
  unfolding link_at
  link_unlocated f = rw (← e, f)

  module _ {p : InfoPlace} (f : m ≡ Ok p) where
    pub link_refused : {k : Refusal} → refused_whole k ≡ whole_info_at s p.offset → refused_link k ≡ link_at s sections r n
    unfolding link_at
    link_refused g = rw (← e, f, ← g)

    pub link_is : {i : UnwindInfo} {cs : List UnwindCode} → has i cs ≡ whole_info_at s p.offset
        → link (record { place = p; info = i; codes = cs }) ≡ link_at s sections r n
    unfolding link_at
    link_is g = rw (← e, f, ← g)

    -- as the code has it
    module _ {x : Result CheckedInfo Refusal} (g : x ≡ check_info_of s p.offset) where
      pub linked_refused : {k : Refusal} → x ≡ Err k → Err k ≡ linked_of (link_at s sections r n)
      linked_refused d = ap linked_of (link_refused (checked_refused (whole_info_at s p.offset) (sym d ∙ g)))

      pub linked_there : {c : CheckedInfo} {o : Option RuntimeFunction} → x ≡ Ok c → o ≡ on_chained c.info.follows None (λ e. Some e)
          → Ok (record { links = p.links; codes = c.codes; next = o }) ≡ linked_of (link_at s sections r n)
      linked_there d h =
          let its = checked_told (whole_info_at s p.offset) (sym d ∙ g) in
          rw (h, its.many) (ap linked_of (link_is its.is))

-- what an info that was read says: where it is, and that its codes are those there
pub record Located (s : List ℕ) (sections : Sections) (r : RuntimeFunction) (n : ℕ) (l : Link) : Type 0 where
  pub place : Ok l.place ≡ locate_info_of s sections r n
  pub whole : has l.info l.codes ≡ whole_info_at s l.place.offset

same_link : {l m : Link} → link l ≡ link m → l ≡ m
same_link e = cc

no_link : {l : Link} {k : Refusal} → link l ≡ refused_link k → ⊥
no_link e = let z : ◌≡◌ {A = ℕ} 0 1 = cc in omega arith

-- the info at a place that was located
abbrev read_at : List ℕ → Result InfoPlace Refusal → ReadLink
read_at s m =
    on_ok m refused_link (λ p.
    on_whole_info (whole_info_at s p.offset) refused_link (λ i cs. link (record { place = p; info = i; codes = cs })))

module _ (s : List ℕ) (sections : Sections) (r : RuntimeFunction) (n : ℕ) where
  by_whole : (p : InfoPlace) → Ok p ≡ locate_info_of s sections r n → (w : WholeInfo) → w ≡ whole_info_at s p.offset → {l : Link}
      → link l ≡ on_whole_info w refused_link (λ i cs. link (record { place = p; info = i; codes = cs })) → Located s sections r n l
  by_whole p d (has i cs) f e = rw (same_link e) (record { place = d; whole = f })
  by_whole p d (refused_whole k) f e = absurd (no_link e)

  by_place : (m : Result InfoPlace Refusal) → m ≡ locate_info_of s sections r n → {l : Link}
      → link l ≡ read_at s m → Located s sections r n l
  by_place (Ok p) d e = by_whole p d (whole_info_at s p.offset) refl e
  by_place (Err k) d e = absurd (no_link e)

  pub link_told : {l : Link} → link l ≡ link_at s sections r n → Located s sections r n l
  unfolding link_at
  link_told e = by_place (locate_info_of s sections r n) refl e

  pub located_link : {l : Link} → Located s sections r n l → link l ≡ link_at s sections r n
  located_link d = link_is s sections r n d.place refl d.whole

  -- the file is not too long, and the links that led there are the `n` before it or more, and 32 at most
  pub link_within : {l : Link} → link l ≡ link_at s sections r n → (length s ≤ file_limit) × Within n l.place
  link_within e = located_told s sections r n (link_told e).place

  pub link_over : {q : Refusal} → length s ≤ file_limit → link_limit < n → q ≡ refuse_of links → refused_link q ≡ link_at s sections r n
  link_over l h d = link_unlocated s sections r n (located_over s sections r n l h refl) (ap Err (sym d))

-- a chain, by its first info and by the chain of the record that this is chained to
module _ (on : RuntimeFunction → ℕ → ReadChain) where
  abbrev pub chain_by : ReadLink → ReadChain
  chain_by x =
      on_link x refused_chain (λ l.
      on_chained l.info.follows
      (chain (single l))
      (λ e. on_chain (on e (l.place.links + 1)) refused_chain (λ c. chain (before l c))))

pub chain_suc : (s : List ℕ) (sections : Sections) (infos : ℕ) (r : RuntimeFunction) (n : ℕ)
    → chain_from (suc infos) s sections r n ≡ chain_by (λ e m. chain_from infos s sections e m) (link_at s sections r n)
unfolding chain_from
chain_suc s sections infos r n = refl

-- two ways on that agree give the same chain
same_follows : (on go : RuntimeFunction → ℕ → ReadChain) (l : Link) (f : Follows)
    → ((e : RuntimeFunction) → on e (l.place.links + 1) ≡ go e (l.place.links + 1))
    → on_chained f (chain (single l)) (λ e. on_chain (on e (l.place.links + 1)) refused_chain (λ c. chain (before l c)))
    ≡ on_chained f (chain (single l)) (λ e. on_chain (go e (l.place.links + 1)) refused_chain (λ c. chain (before l c)))
same_follows on go l Nothing h = refl
same_follows on go l (Chained e) h = ap (λ (x : ReadChain). on_chain x refused_chain (λ c. chain (before l c))) (h e)
same_follows on go l (Handler y) h = refl

same_by : (on go : RuntimeFunction → ℕ → ReadChain) (x : ReadLink)
    → ((l : Link) → link l ≡ x → (e : RuntimeFunction) → on e (l.place.links + 1) ≡ go e (l.place.links + 1))
    → chain_by on x ≡ chain_by go x
same_by on go (link l) h = same_follows on go l l.info.follows (h l refl)
same_by on go (refused_link k) h = refl

module _ (s : List ℕ) (sections : Sections) where
  -- after 32 links there is no info
  pub over : (infos : ℕ) (r : RuntimeFunction) (n : ℕ) → length s ≤ file_limit → link_limit < n
      → refused_chain (refuse_of links) ≡ chain_from infos s sections r n
  unfolding chain_from
  over zero r n l h = refl
  over (suc infos) r n l h =
      ap (chain_by (λ e m. chain_from infos s sections e m)) (link_over s sections r n l h refl)

  -- more infos than can come make no difference
  enough : length s ≤ file_limit → (a b : ℕ) (r : RuntimeFunction) (n : ℕ) → info_limit ≤ a + n → info_limit ≤ b + n
      → chain_from a s sections r n ≡ chain_from b s sections r n
  enough l zero b r n h g = sym (over zero r n l (omega arith)) ∙ over b r n l (omega arith)
  enough l (suc a) zero r n h g = sym (over (suc a) r n l (omega arith)) ∙ over zero r n l (omega arith)
  enough l (suc a) (suc b) r n h g =
      chain_suc s sections a r n
      ∙ same_by (λ e m. chain_from a s sections e m) (λ e m. chain_from b s sections e m) (link_at s sections r n)
      (λ x d e.
      let w = (link_within s sections r n d).1 in
      enough l a b e (x.place.links + 1) (omega (arith, w.least)) (omega (arith, w.least)))
      ∙ sym (chain_suc s sections b r n)

  -- the equation of the definition, with the same bound on both sides
  pub chain_is : (infos : ℕ) (r : RuntimeFunction) (n : ℕ) → info_limit ≤ suc infos + n
      → chain_from (suc infos) s sections r n ≡ chain_by (λ e m. chain_from (suc infos) s sections e m) (link_at s sections r n)
  chain_is infos r n h =
      chain_suc s sections infos r n
      ∙ same_by (λ e m. chain_from infos s sections e m) (λ e m. chain_from (suc infos) s sections e m) (link_at s sections r n)
      (λ x d e.
      let w = link_within s sections r n d in
      let y = w.1 in
      enough w.0 infos (suc infos) e (x.place.links + 1) (omega (arith, y.least)) (omega (arith, y.least)))

-- the chain from a record on, to which `n` links have led: no bound is ever reached
abbrev pub chain_at : List ℕ → Sections → RuntimeFunction → ℕ → ReadChain
chain_at s sections r n = chain_from info_limit s sections r n

pub chain_at_lem : (s : List ℕ) (sections : Sections) (r : RuntimeFunction) (n : ℕ)
    → chain_at s sections r n ≡ chain_by (λ e m. chain_at s sections e m) (link_at s sections r n)
chain_at_lem s sections r n = chain_is s sections link_limit r n (omega arith)

-- The totals, `c` codes passed before.
abbrev pub totals_from : ℕ → ReadChain → Result Totals Refusal
totals_from c (chain x) =
    Ok (record { links = last_links x.found x.outer; codes = c + codes_of_all (x.found ∷ x.outer) })
totals_from c (refused_chain k) = Err k

totals_are : {a b c d : ℕ} → a ≡ b → c ≡ d → ◌≡◌ {A = Result Totals Refusal} (Ok (record { links = a; codes = c })) (Ok (record { links = b; codes = d }))
totals_are e f = rw (e, f)

pub totals_start : (x : ReadChain) → totals_of x ≡ totals_from 0 x
totals_start (chain x) = totals_are refl (omega arith)
totals_start (refused_chain k) = refl

totals_before : (c : ℕ) (l : Link) (x : ReadChain)
    → totals_from c (on_chain x refused_chain (λ y. chain (before l y))) ≡ totals_from (c + length l.codes) x
totals_before c l (chain x) = totals_are refl (omega arith)
totals_before c l (refused_chain k) = refl

-- what the totals tell: there is a chain, or its refusal
pub record HasChain (x : ReadChain) (t : Totals) : Type 0 where
  pub its : Chain
  pub is : chain its ≡ x
  pub links : t.links ≡ last_links its.found its.outer
  pub codes : t.codes ≡ codes_of_all (its.found ∷ its.outer)

same_totals : {t u : Totals} → ◌≡◌ {A = Result Totals Refusal} (Ok t) (Ok u) → t ≡ u
same_totals e = cc

same_refusal : {k j : Refusal} → ◌≡◌ {A = Result Totals Refusal} (Err k) (Err j) → k ≡ j
same_refusal e = cc

never_counted : {t : Totals} {k : Refusal} → ◌≡◌ {A = Result Totals Refusal} (Ok t) (Err k) → ⊥
never_counted e = let z : ◌≡◌ {A = ℕ} 0 1 = cc in omega arith

pub counted_chain : (x : ReadChain) {t : Totals} → Ok t ≡ totals_of x → HasChain x t
counted_chain (chain c) e =
    let f = same_totals e in
    record { its = c; is = refl; links = ap (λ (u : Totals). u.links) f; codes = ap (λ (u : Totals). u.codes) f }
counted_chain (refused_chain k) e = absurd (never_counted e)

pub counted_refused : (x : ReadChain) {k : Refusal} → Err k ≡ totals_of x → refused_chain k ≡ x
counted_refused (chain c) e = absurd (never_counted (sym e))
counted_refused (refused_chain j) e = ap refused_chain (same_refusal e)

-- what an info as the code has it tells
pub record IsRead (x : ReadLink) (t : Linked) : Type 0 where
  pub its : Link
  pub is : link its ≡ x
  pub led : t.links ≡ its.place.links
  pub many : t.codes ≡ length its.codes
  pub next : t.next ≡ on_chained its.info.follows None (λ e. Some e)

same_linked : {t u : Linked} → ◌≡◌ {A = Result Linked Refusal} (Ok t) (Ok u) → t ≡ u
same_linked e = cc

never_linked : {t : Linked} {k : Refusal} → ◌≡◌ {A = Result Linked Refusal} (Ok t) (Err k) → ⊥
never_linked e = let z : ◌≡◌ {A = ℕ} 0 1 = cc in omega arith

is_read : (x : ReadLink) {t : Linked} → Ok t ≡ linked_of x → IsRead x t
is_read (link l) e =
    let f = same_linked e in
    record {
      its = l;
      is = refl;
      led = ap (λ (u : Linked). u.links) f;
      many = ap (λ (u : Linked). u.codes) f;
      next = ap (λ (u : Linked). u.next) f;
    }
is_read (refused_link k) e = absurd (never_linked e)

is_refused : (x : ReadLink) {k : Refusal} → Err k ≡ linked_of x → refused_link k ≡ x
is_refused (link l) e = absurd (never_linked (sym e))
is_refused (refused_link j) e = cc

chained_by : (f : Follows) {e : RuntimeFunction} → ◌≡◌ {A = Option RuntimeFunction} (Some e) (on_chained f None (λ d. Some d)) → f ≡ Chained e
chained_by Nothing g = absurd (let z : ◌≡◌ {A = ℕ} 0 1 = cc in omega arith)
chained_by (Chained d) {e} g = let z : d ≡ e = cc in ap Chained z
chained_by (Handler y) g = absurd (let z : ◌≡◌ {A = ℕ} 0 1 = cc in omega arith)

last_by : (l : Link) (on : RuntimeFunction → ReadChain) (f : Follows) → ◌≡◌ {A = Option RuntimeFunction} None (on_chained f None (λ d. Some d))
    → chain (single l) ≡ on_chained f (chain (single l)) on
last_by l on Nothing g = refl
last_by l on (Chained d) g = absurd (let z : ◌≡◌ {A = ℕ} 0 1 = cc in omega arith)
last_by l on (Handler y) g = refl

-- a turn of counting: an info was read to which `n` links had led, after `c` codes
module _ (s : List ℕ) (sections : Sections) (r : RuntimeFunction) (n c : ℕ) {x : Result Linked Refusal}
    (e : x ≡ linked_of (link_at s sections r n)) where
  pub count_refused : {k : Refusal} → x ≡ Err k → Err k ≡ totals_from c (chain_at s sections r n)
  count_refused f = rw (chain_at_lem s sections r n, ← is_refused (link_at s sections r n) (sym f ∙ e))

  module _ {t : Linked} (f : x ≡ Ok t) where
    read : IsRead (link_at s sections r n) t
    read = is_read (link_at s sections r n) (sym f ∙ e)

    pub count_last : t.next ≡ None → Ok (record { links = t.links; codes = c + t.codes }) ≡ totals_from c (chain_at s sections r n)
    count_last g =
        let p = read in
        let l = p.its in
        totals_are p.led (omega (arith, p.many))
        ∙ ap (totals_from c)
        (last_by l (λ d. on_chain (chain_at s sections d (l.place.links + 1)) refused_chain (λ y. chain (before l y))) l.info.follows (sym g ∙ p.next)
        ∙ ap (chain_by (λ d m. chain_at s sections d m)) p.is
        ∙ sym (chain_at_lem s sections r n))

    pub count_chained : {d : RuntimeFunction} → t.next ≡ Some d
        → totals_from c (chain_at s sections r n) ≡ totals_from (c + t.codes) (chain_at s sections d (t.links + 1))
    count_chained {d} g =
        let p = read in
        let l = p.its in
        rw (chain_at_lem s sections r n, ← p.is, chained_by l.info.follows (sym g ∙ p.next))
        (totals_before c l (chain_at s sections d (l.place.links + 1))
        ∙ ap (λ (k : ℕ). totals_from (c + k) (chain_at s sections d (l.place.links + 1))) (sym p.many)
        ∙ ap (λ (k : ℕ). totals_from (c + t.codes) (chain_at s sections d (k + 1))) (sym p.led))

    -- the links grow and stay below 33, and an info's codes are few
    pub link_bound : (n ≤ t.links) × (t.links ≤ link_limit) × (t.codes ≤ file_limit)
    link_bound =
        let p = read in
        let w = link_within s sections r n p.is in
        let y = w.1 in
        let b = whole_most s p.its.place.offset p.its.info p.its.codes (link_told s sections r n p.is).whole in
        (omega (arith, y.least, p.led), omega (arith, y.most, p.led), omega (arith, p.many, b.0, b.1))
