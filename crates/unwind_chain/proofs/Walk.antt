-- The cursor walks a chain: from where `start_chain` puts it, it comes to each code of the one list in turn, passes each info, and ends.
-- Assumes nothing.
use Rattle.std.specs.Prelude.{Result, Ok, Err}
use Rattle.answer.specs.Answer.{on_ok, limit, cut_of}
use mathlib.Core.Path.{◌≡◌, refl, sym, ap, ◌∙◌}
use mathlib.Core.List.{List, [], ◌∷◌, ◌++◌}
use mathlib.Core.Bool.{Bool, true, false}
use mathlib.Core.Logic.{⊎_elim}
use Prim.Native.Nat.{ℕ, zero, suc, ◌+◌, ◌-◌, ◌*◌, ◌≤◌, ◌<◌}
use native.Mathlib.Omega.{arith}
use lib.ListN.{length, drop, length-take, length-drop}
use lib.Dec.{leb, ltb, eqb}
use borrow.Author.Tests.{leb-true, ne_eqb}
use Rattle.answer.specs.Test.{pick, must, file_limit}
use Rattle.answer.specs.declared.Reason.{Reason}
use Rattle.answer.specs.declared.Refusal.{Refusal}
use Rattle.fields.proofs.Laws.{le_or_lt}
use Rattle.runtime_function.specs.declared.RuntimeFunction.{RuntimeFunction}
use Rattle.pe_mapping.specs.declared.Sections.{Sections}
use Rattle.unwind_operation.specs.Operation.{slot_count, next_code_of}
use Rattle.unwind_operation.specs.declared.UnwindCode.{UnwindCode}
use Rattle.unwind_operation.specs.declared.TakenCode.{TakenCode}
use Rattle.unwind_operation.proofs.Laws.{code_within}
use Rattle.unwind_info.specs.Unwind.{codes_end}
use Rattle.unwind_info.specs.declared.UnwindHeader.{UnwindHeader}
use Rattle.unwind_info.specs.declared.Follows.{Follows}
use Rattle.unwind_info.specs.declared.Follows.TheVariants.{Nothing, Chained, Handler}
use Rattle.unwind_codes.specs.Codes.{CodesEnd, whole, stopped, Codes, refused_here, preceded, codes_at, slots_of, codes_of}
use Rattle.unwind_codes.proofs.Laws.{all, codes_end_lem, codes_refused, codes_more, whole_slots, whole_info}
use Rattle.unwind_links.specs.Links.{link_limit, locate_info_of, info_at, chained_info_of, on_chained}
use Rattle.unwind_links.specs.declared.ReachedInfo.{ReachedInfo}
use Rattle.unwind_links.proofs.Laws.{located_told, reached_told, info_there}
use Rattle.unwind_array.specs.Arrays.{CodeArray, ChainCode, codes_from, outer_codes, joined_of}
use Rattle.unwind_chain.specs.Chain.{Link, ReadLink, link, refused_link, link_at, Chain, ReadChain, chain, refused_chain, on_chain, single, before, chain_from, info_limit, chain_of, frame_of, arrays_of_links, arrays_of}
use Rattle.unwind_chain.specs.Cursor.{cursor_at, at_slot, start_chain_of, code_in, code_at, after_codes, next_chain_code_of}
use Rattle.unwind_chain.specs.declared.ChainCursor.{ChainCursor}
use Rattle.unwind_chain.specs.declared.TakenChainCode.{TakenChainCode}
use Rattle.unwind_chain.specs.declared.NextChainCode.{NextChainCode}
use Rattle.unwind_chain.specs.declared.NextChainCode.TheVariants.{Code, Info, End}
use Rattle.unwind_chain.proofs.Laws.{Located, link_told, located_link, chain_by, chain_at, chain_at_lem}
use Rattle.unwind_chain.proofs.Next.{start_there, code_taken, code_inside, after_nothing, after_handler, after_info, next_code, next_after}

-- what follows the codes is no record
abbrev pub NotChained : Follows → Type 0
NotChained Nothing = Unit
NotChained (Chained e) = ⊥
NotChained (Handler h) = Unit

-- The infos of a chain, each located from the record that names it: from the record `r`, to which `n` links have led.
pub data Chains (s : List ℕ) (sections : Sections) : RuntimeFunction → ℕ → Link → List Link → Type 0 where
  last_info : {r : RuntimeFunction} {n : ℕ} {l : Link} → Located s sections r n l → NotChained l.info.follows
      → Chains s sections r n l []
  more_infos : {r e : RuntimeFunction} {n : ℕ} {l m : Link} {ms : List Link} → Located s sections r n l → l.info.follows ≡ Chained e →
      Chains s sections e (l.place.links + 1) m ms → Chains s sections r n l (m ∷ ms)

same_chain : {c d : Chain} → chain c ≡ chain d → c ≡ d
same_chain e = cc

no_chain : {c : Chain} {k : Refusal} → chain c ≡ refused_chain k → ⊥
no_chain e = let z : ◌≡◌ {A = ℕ} 0 1 = cc in omega arith

-- a chain that was read is made of such infos
module _ (s : List ℕ) (sections : Sections) (on : RuntimeFunction → ℕ → ReadChain)
    (known : (e : RuntimeFunction) (m : ℕ) (d : Chain) → chain d ≡ on e m → Chains s sections e m d.found d.outer)
    (r : RuntimeFunction) (n : ℕ) (c : Chain) where
  told_on : (l : Link) → Located s sections r n l → (e : RuntimeFunction) → l.info.follows ≡ Chained e → (y : ReadChain)
      → y ≡ on e (l.place.links + 1) → chain c ≡ on_chain y refused_chain (λ d. chain (before l d))
      → Chains s sections r n c.found c.outer
  told_on l p e f (chain d) g h = rw (same_chain h) (more_infos p f (known e (l.place.links + 1) d g))
  told_on l p e f (refused_chain k) g h = absurd (no_chain h)

  told_follows : (l : Link) → Located s sections r n l → (f : Follows) → l.info.follows ≡ f
      → chain c ≡ on_chained f (chain (single l)) (λ e. on_chain (on e (l.place.links + 1)) refused_chain (λ d. chain (before l d)))
      → Chains s sections r n c.found c.outer
  told_follows l p Nothing f h = rw (same_chain h) (last_info p (rw f tt))
  told_follows l p (Chained e) f h = told_on l p e f (on e (l.place.links + 1)) refl h
  told_follows l p (Handler y) f h = rw (same_chain h) (last_info p (rw f tt))

  told_by : (x : ReadLink) → x ≡ link_at s sections r n → chain c ≡ chain_by on x → Chains s sections r n c.found c.outer
  told_by (link l) d h = told_follows l (link_told s sections r n d) l.info.follows refl h
  told_by (refused_link k) d h = absurd (no_chain h)

pub chain_told : (s : List ℕ) (sections : Sections) (infos : ℕ) (r : RuntimeFunction) (n : ℕ) (c : Chain)
    → chain c ≡ chain_from infos s sections r n → Chains s sections r n c.found c.outer
unfolding chain_from
chain_told s sections zero r n c e = absurd (no_chain e)
chain_told s sections (suc infos) r n c e =
    told_by s sections (λ x m. chain_from infos s sections x m) (λ x m d. chain_told s sections infos x m d) r n c
    (link_at s sections r n) refl e

ends_by : (l : Link) (on : RuntimeFunction → ReadChain) (f : Follows) → NotChained f → chain (single l) ≡ on_chained f (chain (single l)) on
ends_by l on Nothing h = refl
ends_by l on (Chained e) h = absurd h
ends_by l on (Handler y) h = refl

-- and such infos are the chain: no bound is ever reached
pub chain_of_lem : (s : List ℕ) (sections : Sections) (r : RuntimeFunction) (n : ℕ) (l : Link) (ls : List Link) → Chains s sections r n l ls
    → chain (record { found = l; outer = ls }) ≡ chain_at s sections r n
chain_of_lem s sections r n l [] (last_info p h) =
    rw (chain_at_lem s sections r n, ← located_link s sections r n p) (ends_by l _ l.info.follows h)
chain_of_lem s sections r n l (m ∷ ms) (more_infos {e = e} p f h) =
    rw (chain_at_lem s sections r n, ← located_link s sections r n p, f, ← chain_of_lem s sections e (l.place.links + 1) m ms h)

-- an info of a chain, as one that was reached
abbrev pub reached_of : Link → ReachedInfo
reached_of l = record { place = l.place; info = l.info }

-- a located info is the one that is reached there
pub reached_link : (s : List ℕ) (sections : Sections) (r : RuntimeFunction) (n : ℕ) (l : Link) → Located s sections r n l
    → Ok (reached_of l) ≡ info_at s (locate_info_of s sections r n)
reached_link s sections r n l p = info_there s (sym p.place) (whole_info s l.place.offset p.whole) refl

-- From the cursor, the codes `cs` of its info are still to come, and then `arrays`, those of the infos after it.
pub data Walks (s : List ℕ) (sections : Sections) : ChainCursor → List UnwindCode → List CodeArray → Type 0 where
  -- a code of the cursor's info, and the cursor after it
  walks_code : {k : ChainCursor} {t : TakenChainCode} {cs : List UnwindCode} {arrays : List CodeArray}
      → Ok (Code t) ≡ next_chain_code_of s sections k →
      Walks s sections t.next cs arrays → Walks s sections k (t.code ∷ cs) arrays
  -- no further code, and the cursor at the first slot of the next info, whose header is that of the next array
  walks_info : {k x : ChainCursor} {a : CodeArray} {arrays : List CodeArray} → Ok (Info x) ≡ next_chain_code_of s sections k →
      frame_of x.header ≡ a.frame → x.header.size_of_prolog ≡ a.prolog → Walks s sections x a.codes arrays →
      Walks s sections k [] (a ∷ arrays)
  -- no further info
  walks_end : {k : ChainCursor} → Ok End ≡ next_chain_code_of s sections k → Walks s sections k [] []

-- how many slots an info has, where they lie in the file
slots_count : (s : List ℕ) (h : UnwindHeader) → codes_end h ≤ length s → slot_count (slots_of s h) ≡ h.count_of_codes
slots_count s h i =
    let a = length-take (2 * h.count_of_codes) (drop h.code_start s) in
    let b = length-drop h.code_start s in
    omega (arith, a, b)

stop_never : {k : Refusal} → whole ≡ stopped k → ⊥
stop_never e = let z : ◌≡◌ {A = ℕ} 0 1 = cc in omega arith

never_stopped : {cs : List UnwindCode} {k : Refusal} → all cs ≡ refused_here k → ⊥
never_stopped e = stop_never (ap (λ (x : Codes). x.end) e)

-- a code at a slot, where all codes from there on are decoded
record Turn (slots : List ℕ) (v frame at : ℕ) (cs : List UnwindCode) : Type 0 where
  pub taken : TakenCode
  pub is : Ok taken ≡ next_code_of slots at v frame
  pub more : List UnwindCode
  pub list : cs ≡ taken.code ∷ more
  pub codes : all more ≡ codes_at slots taken.next v frame

module _ (slots : List ℕ) (v frame at : ℕ) (cs : List UnwindCode) (h : at < slot_count slots) (e : all cs ≡ codes_at slots at v frame) where
  turn_by_lem : (x : Result TakenCode Refusal) → x ≡ next_code_of slots at v frame → Turn slots v frame at cs
  turn_by_lem (Ok t) d =
      let ds = codes_at slots t.next v frame in
      let f : all cs ≡ preceded t.code ds = e ∙ sym (codes_more slots v frame at h d refl) in
      record {
        taken = t;
        is = d;
        more = ds.listed;
        list = ap (λ (x : Codes). x.listed) f;
        codes = ap (λ (z : CodesEnd). record { listed = ds.listed; end = z }) (ap (λ (x : Codes). x.end) f);
      }
  turn_by_lem (Err k) d = absurd (never_stopped (e ∙ sym (codes_refused slots v frame at h d refl)))

  turn : Turn slots v frame at cs
  turn = turn_by_lem (next_code_of slots at v frame) refl

same_first : {c d : UnwindCode} {cs ds : List UnwindCode} → c ∷ cs ≡ d ∷ ds → c ≡ d
same_first e = cc

same_others : {c d : UnwindCode} {cs ds : List UnwindCode} → c ∷ cs ≡ d ∷ ds → cs ≡ ds
same_others e = cc

-- the codes of an info, from the cursor's slot on, if what comes after them is walked
module _ (s : List ℕ) (sections : Sections) (l : length s ≤ file_limit) (k : ChainCursor) (i : codes_end k.header ≤ length s)
    (arrays : List CodeArray) (after : (at : ℕ) → k.header.count_of_codes ≤ at → Walks s sections (at_slot k at) [] arrays) where
  abbrev slots : List ℕ
  slots = slots_of s k.header

  abbrev codes_there : ℕ → Codes
  codes_there at = codes_at slots at k.header.version k.header.frame_register.0

  none_left : (at : ℕ) → all [] ≡ codes_there at → k.header.count_of_codes ≤ at
  none_left at e =
      ⊎_elim
      (λ h. omega (arith, slots_count s k.header i))
      (λ h.
      let t = turn slots k.header.version k.header.frame_register.0 at [] h e in
      let z = ap (λ (x : List UnwindCode). length x) t.list in
      absurd (omega arith))
      (le_or_lt (slot_count slots) at)

  one_left : (at : ℕ) (c : UnwindCode) (cs : List UnwindCode) → all (c ∷ cs) ≡ codes_there at → at < slot_count slots
  one_left at c cs e =
      ⊎_elim
      (λ h.
      let f = codes_end_lem slots k.header.version k.header.frame_register.0 at h in
      let z = ap (λ (x : Codes). length x.listed) (e ∙ sym f) in
      absurd (omega arith))
      (λ h. h)
      (le_or_lt (slot_count slots) at)

  walk_codes : (at : ℕ) (cs : List UnwindCode) → all cs ≡ codes_there at → Walks s sections (at_slot k at) cs arrays
  walk_codes at [] e = after at (none_left at e)
  walk_codes at (c ∷ cs) e =
      let h = one_left at c cs e in
      let t = turn slots k.header.version k.header.frame_register.0 at (c ∷ cs) h e in
      let f = same_first t.list in
      let g = same_others t.list in
      let n = slots_count s k.header i in
      let y : at < k.header.count_of_codes = omega (arith, n, h) in
      rw f
      (walks_code
      (next_code s sections (at_slot k at) l y (code_inside s (at_slot k at) i (code_taken slots (at_slot k at) t.is refl)))
      (walk_codes t.taken.next cs (ap all g ∙ t.codes)))

-- the first info of a chain
pub head_of : {s : List ℕ} {sections : Sections} {r : RuntimeFunction} {n : ℕ} {l : Link} {ls : List Link} → Chains s sections r n l ls
    → Located s sections r n l
head_of (last_info p h) = p
head_of (more_infos p f h) = p

ended : (s : List ℕ) (sections : Sections) (k : ChainCursor) (f : Follows) → k.follows ≡ f → NotChained f → Ok End ≡ after_codes s sections k
ended s sections k Nothing e h = after_nothing s sections k e
ended s sections k (Chained r) e h = absurd h
ended s sections k (Handler y) e h = after_handler s sections k e

-- the cursor at the first slot of an info of a chain
abbrev pub cursor_of : Link → Bool → ChainCursor
cursor_of l found = cursor_at l.place.links l.info found

module _ (s : List ℕ) (sections : Sections) where
  walk_link : (r : RuntimeFunction) (n : ℕ) (l : Link) → Located s sections r n l → (found : Bool) (arrays : List CodeArray)
      → ((at : ℕ) → l.info.header.count_of_codes ≤ at → Walks s sections (at_slot (cursor_of l found) at) [] arrays)
      → Walks s sections (cursor_of l found) l.codes arrays
  unfolding codes_of
  walk_link r n l p found arrays after =
      let z = whole_slots s l.place.offset p.whole in
      walk_codes s sections (located_told s sections r n p.place).0 (cursor_of l found) z.inside arrays after 0 l.codes z.codes

  -- From the first slot of an info of a chain, its codes are walked, and then the arrays of the infos that it is chained to.
  pub walk_chain : (r : RuntimeFunction) (n : ℕ) (l : Link) (ls : List Link) → Chains s sections r n l ls → (found : Bool)
      → Walks s sections (cursor_of l found) l.codes (arrays_of_links ls)
  walk_chain r n l [] (last_info p h) found =
      let b = (located_told s sections r n p.place).0 in
      walk_link r n l p found []
      (λ at y.
      walks_end (next_after s sections (at_slot (cursor_of l found) at) b y
      (ended s sections (at_slot (cursor_of l found) at) l.info.follows refl h)))
  walk_chain r n l (m ∷ ms) (more_infos {e = e} p f h) found =
      let b = (located_told s sections r n p.place).0 in
      let q = reached_link s sections e (l.place.links + 1) m (head_of h) in
      walk_link r n l p found (arrays_of_links (m ∷ ms))
      (λ at y.
      walks_info
      (next_after s sections (at_slot (cursor_of l found) at) b y (after_info s sections (at_slot (cursor_of l found) at) f q refl refl))
      refl refl (walk_chain e (l.place.links + 1) m ms h false))

-- What a code says of the cursor after it: it is at a later slot of the same info.
pub record Onward (k : ChainCursor) (t : TakenChainCode) : Type 0 where
  pub same : t.next ≡ at_slot k t.next.slot
  pub later : k.slot < t.next.slot
  pub inside : t.next.slot ≤ k.header.count_of_codes

-- What the next info says of the cursor at it: more links led there, 32 at most, and it is at the first slot of an info that was not the
-- found.
pub record Passed (k x : ChainCursor) : Type 0 where
  pub led : k.links < x.links
  pub most : x.links ≤ link_limit
  pub first : x.slot ≡ 0
  pub outer : x.found ≡ false

same_code : {t u : TakenChainCode} → ◌≡◌ {A = Result NextChainCode Refusal} (Ok (Code t)) (Ok (Code u)) → t ≡ u
same_code e = cc

same_info : {x y : ChainCursor} → ◌≡◌ {A = Result NextChainCode Refusal} (Ok (Info x)) (Ok (Info y)) → x ≡ y
same_info e = cc

code_info : {t : TakenChainCode} {x : ChainCursor} → ◌≡◌ {A = Result NextChainCode Refusal} (Ok (Code t)) (Ok (Info x)) → ⊥
code_info e = let z : ◌≡◌ {A = ℕ} 0 1 = cc in omega arith

code_end : {t : TakenChainCode} → ◌≡◌ {A = Result NextChainCode Refusal} (Ok (Code t)) (Ok End) → ⊥
code_end e = let z : ◌≡◌ {A = ℕ} 0 1 = cc in omega arith

code_never : {t : TakenChainCode} {q : Refusal} → ◌≡◌ {A = Result NextChainCode Refusal} (Ok (Code t)) (Err q) → ⊥
code_never e = let z : ◌≡◌ {A = ℕ} 0 1 = cc in omega arith

info_end : {x : ChainCursor} → ◌≡◌ {A = Result NextChainCode Refusal} (Ok (Info x)) (Ok End) → ⊥
info_end e = let z : ◌≡◌ {A = ℕ} 0 1 = cc in omega arith

info_never : {x : ChainCursor} {q : Refusal} → ◌≡◌ {A = Result NextChainCode Refusal} (Ok (Info x)) (Err q) → ⊥
info_never e = let z : ◌≡◌ {A = ℕ} 0 1 = cc in omega arith

end_never : {q : Refusal} → ◌≡◌ {A = Result NextChainCode Refusal} (Ok End) (Err q) → ⊥
end_never e = let z : ◌≡◌ {A = ℕ} 0 1 = cc in omega arith

-- what an answer tells that is no refusal
by_must : (test : Bool) (why : Reason) (x y : Result NextChainCode Refusal) → ((q : Refusal) → y ≡ Err q → ⊥) → y ≡ must Err test why x → y ≡ x
unfolding must
by_must true why x y f e = e
by_must false why x y f e = absurd (f _ e)

module _ (s : List ℕ) (sections : Sections) (k : ChainCursor) where
  -- a code is at the cursor's slot
  onward_in : (x : Result TakenCode Refusal) {t : TakenChainCode}
      → x ≡ next_code_of (slots_of s k.header) k.slot k.header.version k.header.frame_register.0
      → codes_end k.header ≤ length s
      → Ok (Code t) ≡ on_ok x Err (λ u. Ok (Code (record { code = u.code; next = at_slot k u.next }))) → Onward k t
  onward_in (Ok u) d i e =
      let w = code_within (slots_of s k.header) k.slot k.header.version k.header.frame_register.0 d in
      let n = slots_count s k.header i in
      rw (same_code e) (record { same = refl; later = omega (arith, w.first); inside = omega (arith, w.last, n) })
  onward_in (Err q) d i e = absurd (code_never e)

  onward_at : (test : Bool) {t : TakenChainCode} → leb (codes_end k.header) (length s) ≡ test
      → Ok (Code t) ≡ pick test (code_in (slots_of s k.header) k) (Err (cut_of (codes_end k.header))) → Onward k t
  unfolding code_in
  onward_at true d e =
      onward_in (next_code_of (slots_of s k.header) k.slot k.header.version k.header.frame_register.0) refl
      (leb-true (codes_end k.header) (length s) d) e
  onward_at false d e = absurd (code_never e)

  no_code_by : (x : Result ReachedInfo Refusal) {t : TakenChainCode}
      → Ok (Code t) ≡ on_ok x Err (λ y. Ok (Info (cursor_at y.place.links y.info false))) → ⊥
  no_code_by (Ok y) e = code_info e
  no_code_by (Err q) e = code_never e

  no_code_after : (f : Follows) {t : TakenChainCode}
      → Ok (Code t)
      ≡ on_chained f (Ok End) (λ r.
      on_ok (chained_info_of s sections r k.links) Err (λ y. Ok (Info (cursor_at y.place.links y.info false)))) → ⊥
  no_code_after Nothing e = code_end e
  no_code_after (Chained r) e = no_code_by (chained_info_of s sections r k.links) e
  no_code_after (Handler y) e = code_end e

  onward_by_lem : (test : Bool) {t : TakenChainCode} → Ok (Code t) ≡ pick test (code_at s k) (after_codes s sections k) → Onward k t
  unfolding code_at after_codes
  onward_by_lem true e = onward_at (leb (codes_end k.header) (length s)) refl e
  onward_by_lem false e = absurd (no_code_after k.follows e)

  pub code_onward : {t : TakenChainCode} → Ok (Code t) ≡ next_chain_code_of s sections k → Onward k t
  unfolding next_chain_code_of
  code_onward {t} e =
      onward_by_lem (ltb k.slot k.header.count_of_codes)
      (by_must (leb (length s) file_limit) limit _ (Ok (Code t)) (λ q f. code_never f) e)

  -- the next info
  passed_by : (r : RuntimeFunction) (x : Result ReachedInfo Refusal) {o : ChainCursor} → x ≡ chained_info_of s sections r k.links
      → Ok (Info o) ≡ on_ok x Err (λ y. Ok (Info (cursor_at y.place.links y.info false))) → Passed k o
  passed_by r (Ok y) d e =
      let p = reached_told s (locate_info_of s sections r (k.links + 1)) d in
      let w = (located_told s sections r (k.links + 1) p.place).1 in
      rw (same_info e) (record { led = omega (arith, w.least); most = w.most; first = refl; outer = refl })
  passed_by r (Err q) d e = absurd (info_never e)

  passed_after : (f : Follows) {o : ChainCursor}
      → Ok (Info o)
      ≡ on_chained f (Ok End) (λ r.
      on_ok (chained_info_of s sections r k.links) Err (λ y. Ok (Info (cursor_at y.place.links y.info false)))) → Passed k o
  passed_after Nothing e = absurd (info_end e)
  passed_after (Chained r) e = passed_by r (chained_info_of s sections r k.links) refl e
  passed_after (Handler y) e = absurd (info_end e)

  no_info_in : (x : Result TakenCode Refusal) {o : ChainCursor}
      → Ok (Info o) ≡ on_ok x Err (λ u. Ok (Code (record { code = u.code; next = at_slot k u.next }))) → ⊥
  no_info_in (Ok u) e = code_info (sym e)
  no_info_in (Err q) e = info_never e

  no_info_at : (test : Bool) {o : ChainCursor}
      → Ok (Info o) ≡ pick test (code_in (slots_of s k.header) k) (Err (cut_of (codes_end k.header))) → ⊥
  unfolding code_in
  no_info_at true e = no_info_in (next_code_of (slots_of s k.header) k.slot k.header.version k.header.frame_register.0) e
  no_info_at false e = info_never e

  passed_test : (test : Bool) {o : ChainCursor} → Ok (Info o) ≡ pick test (code_at s k) (after_codes s sections k) → Passed k o
  unfolding code_at after_codes
  passed_test true e = absurd (no_info_at (leb (codes_end k.header) (length s)) e)
  passed_test false e = passed_after k.follows e

  pub info_passed : {o : ChainCursor} → Ok (Info o) ≡ next_chain_code_of s sections k → Passed k o
  unfolding next_chain_code_of
  info_passed {o} e =
      passed_test (ltb k.slot k.header.count_of_codes)
      (by_must (leb (length s) file_limit) limit _ (Ok (Info o)) (λ q f. info_never f) e)

-- A number that falls with each step, whatever the cursor and the bytes: no walk is endless.
abbrev pub measure : ChainCursor → ℕ
measure k = (info_limit - k.links) * 256 + (k.header.count_of_codes - k.slot)

pub code_smaller : (s : List ℕ) (sections : Sections) (k : ChainCursor) {t : TakenChainCode} → Ok (Code t) ≡ next_chain_code_of s sections k
    → measure t.next < measure k
code_smaller s sections k {t} e =
    let o = code_onward s sections k e in
    let p = ap measure o.same in
    omega (arith, p, o.later, o.inside)

-- a count of codes is a byte
pub info_smaller : (s : List ℕ) (sections : Sections) (k : ChainCursor) {x : ChainCursor} → Ok (Info x) ≡ next_chain_code_of s sections k
    → x.header.count_of_codes < 256 → measure x < measure k
info_smaller s sections k {x} e h =
    let o = info_passed s sections k e in
    omega (arith, o.led, o.most, o.first)

-- a code of the cursor's info, as it is in the one list
abbrev pub chain_code : ChainCursor → UnwindCode → ChainCode
chain_code k c =
    record {
      code = c;
      frame = frame_of k.header;
      prolog = k.header.size_of_prolog;
      found = k.found;
      first = eqb k.slot 0;
    }

-- what of the one list is still to come
unfoldable pub to_come : ChainCursor → List UnwindCode → List CodeArray → List ChainCode
to_come k cs arrays =
    codes_from (frame_of k.header) k.header.size_of_prolog k.found (eqb k.slot 0) cs ++ outer_codes arrays

come_slot : (k : ChainCursor) (n : ℕ) → 0 < n → (c : UnwindCode) (cs : List UnwindCode) (arrays : List CodeArray)
    → to_come k (c ∷ cs) arrays ≡ chain_code k c ∷ to_come (at_slot k n) cs arrays
unfolding to_come
come_slot k n h c cs arrays = rw (ne_eqb n 0 (λ z. omega arith))

come_array : (x : ChainCursor) (k : ChainCursor) (a : CodeArray) (arrays : List CodeArray) → x.slot ≡ 0 → x.found ≡ false
    → frame_of x.header ≡ a.frame → x.header.size_of_prolog ≡ a.prolog → to_come k [] (a ∷ arrays) ≡ to_come x a.codes arrays
unfolding to_come
come_array x k a arrays z f g h = rw (z, f, g, h)

-- What a caller knows of each answer on the way: a code is the first that is still to come ..
pub record Taken (s : List ℕ) (sections : Sections) (k : ChainCursor) (t : TakenChainCode) (cs : List UnwindCode) (arrays : List CodeArray)
    :
    Type 0 where
  pub rest : List UnwindCode
  pub list : cs ≡ t.code ∷ rest
  pub walks : Walks s sections t.next rest arrays
  pub come : to_come k cs arrays ≡ chain_code k t.code ∷ to_come t.next rest arrays

-- .. an info is that of the first array that is still to come ..
pub record Entered (s : List ℕ) (sections : Sections) (k x : ChainCursor) (cs : List UnwindCode) (arrays : List CodeArray) : Type 0 where
  pub array : CodeArray
  pub rest : List CodeArray
  pub none : cs ≡ []
  pub list : arrays ≡ array ∷ rest
  pub frame : frame_of x.header ≡ array.frame
  pub prolog : x.header.size_of_prolog ≡ array.prolog
  pub walks : Walks s sections x array.codes rest
  pub come : to_come k cs arrays ≡ to_come x array.codes rest

module _ (s : List ℕ) (sections : Sections) (k : ChainCursor) where
  come_code : {t : TakenChainCode} → Ok (Code t) ≡ next_chain_code_of s sections k → (cs : List UnwindCode) (arrays : List CodeArray)
      → to_come k (t.code ∷ cs) arrays ≡ chain_code k t.code ∷ to_come t.next cs arrays
  come_code {t} e cs arrays =
      let o = code_onward s sections k e in
      come_slot k t.next.slot (omega (arith, o.later)) t.code cs arrays
      ∙ ap (λ (x : ChainCursor). chain_code k t.code ∷ to_come x cs arrays) (sym o.same)

  code_again : {t u : TakenChainCode} {cs : List UnwindCode} {arrays : List CodeArray} → u ≡ t → Ok (Code t) ≡ next_chain_code_of s sections k
      → Walks s sections u.next cs arrays → Taken s sections k t (u.code ∷ cs) arrays
  code_again {t} {u} {cs} {arrays} p e w =
      let f : u.code ≡ t.code = ap (λ (x : TakenChainCode). x.code) p in
      record {
        rest = cs;
        list = ap (λ (c : UnwindCode). c ∷ cs) f;
        walks = rw (sym p) w;
        come = ap (λ (c : UnwindCode). to_come k (c ∷ cs) arrays) f ∙ come_code e cs arrays;
      }

  info_again : {x o : ChainCursor} {a : CodeArray} {arrays : List CodeArray} → o ≡ x → Ok (Info x) ≡ next_chain_code_of s sections k
      → frame_of o.header ≡ a.frame → o.header.size_of_prolog ≡ a.prolog → Walks s sections o a.codes arrays
      → Entered s sections k x [] (a ∷ arrays)
  info_again {x} {o} {a} {arrays} p e f g w =
      let q = info_passed s sections k e in
      let y : frame_of x.header ≡ a.frame = ap (λ (z : ChainCursor). frame_of z.header) (sym p) ∙ f in
      let h : x.header.size_of_prolog ≡ a.prolog = ap (λ (z : ChainCursor). z.header.size_of_prolog) (sym p) ∙ g in
      record {
        array = a;
        rest = arrays;
        none = refl;
        list = refl;
        frame = y;
        prolog = h;
        walks = rw (sym p) w;
        come = come_array x k a arrays q.first q.outer y h;
      }

  pub code_walked : {t : TakenChainCode} (cs : List UnwindCode) (arrays : List CodeArray) → Walks s sections k cs arrays
      → Ok (Code t) ≡ next_chain_code_of s sections k → Taken s sections k t cs arrays
  code_walked cs arrays (walks_code d w) e = code_again (same_code (d ∙ sym e)) e w
  code_walked cs arrays (walks_info d f g w) e = absurd (code_info (e ∙ sym d))
  code_walked cs arrays (walks_end d) e = absurd (code_end (e ∙ sym d))

  pub info_walked : {x : ChainCursor} (cs : List UnwindCode) (arrays : List CodeArray) → Walks s sections k cs arrays
      → Ok (Info x) ≡ next_chain_code_of s sections k → Entered s sections k x cs arrays
  info_walked cs arrays (walks_code d w) e = absurd (code_info (d ∙ sym e))
  info_walked cs arrays (walks_info d f g w) e = info_again (same_info (d ∙ sym e)) e f g w
  info_walked cs arrays (walks_end d) e = absurd (info_end (e ∙ sym d))

  -- .. at the end nothing is still to come ..
  pub end_walked : (cs : List UnwindCode) (arrays : List CodeArray) → Walks s sections k cs arrays → Ok End ≡ next_chain_code_of s sections k
      → (cs ≡ []) × (arrays ≡ []) × (to_come k cs arrays ≡ [])
  unfolding to_come
  end_walked cs arrays (walks_code d w) e = absurd (code_end (d ∙ sym e))
  end_walked cs arrays (walks_info d f g w) e = absurd (info_end (d ∙ sym e))
  end_walked cs arrays (walks_end d) e = (refl, refl, refl)

  -- .. and nothing is refused.
  pub never_refused : {q : Refusal} (cs : List UnwindCode) (arrays : List CodeArray) → Walks s sections k cs arrays
      → Err q ≡ next_chain_code_of s sections k → ⊥
  never_refused cs arrays (walks_code d w) e = code_never (d ∙ sym e)
  never_refused cs arrays (walks_info d f g w) e = info_never (d ∙ sym e)
  never_refused cs arrays (walks_end d) e = end_never (d ∙ sym e)

-- Where `start_chain` puts the cursor: at the first slot of the found info.
abbrev pub start_of : Chain → ChainCursor
start_of c = cursor_of c.found true

-- A chain that was read is walked from its start: the codes of the found info, then the arrays of those that it is chained to; and what is
-- still to come there is the one list.
pub record Walked (s : List ℕ) (sections : Sections) (r : RuntimeFunction) (c : Chain) : Type 0 where
  pub starts : Ok (record { begin = c.found.place.begin; cursor = start_of c }) ≡ start_chain_of s sections r
  pub walks : Walks s sections (start_of c) (arrays_of c).found.codes (arrays_of c).outer
  pub come : to_come (start_of c) (arrays_of c).found.codes (arrays_of c).outer ≡ joined_of (arrays_of c)

pub chain_walked : (s : List ℕ) (sections : Sections) (r : RuntimeFunction) (c : Chain) → chain c ≡ chain_of s sections r
    → Walked s sections r c
unfolding to_come joined_of
chain_walked s sections r c e =
    let h = chain_told s sections info_limit r 0 c e in
    record {
      starts = start_there s sections r (reached_link s sections r 0 c.found (head_of h)) refl refl;
      walks = walk_chain s sections r 0 c.found c.outer h true;
      come = refl;
    }
