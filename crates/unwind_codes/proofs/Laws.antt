-- The laws of the codes of an unwind info: what the proofs of this crate and of its callers cite.
-- Assumes nothing.
use Rattle.std.specs.Prelude.{Result, Ok, Err, Option, Some, None, ok_or}
use Rattle.answer.specs.Answer.{on_ok, refuse_of, limit, not_found}
use mathlib.Core.Path.{◌≡◌, refl, sym, ap, ◌∙◌}
use mathlib.Core.List.{List}
use mathlib.Core.Bool.{Bool, true, false}
use mathlib.Core.Logic.{⊎_elim}
use Prim.Native.Nat.{ℕ, zero, suc, ◌+◌, ◌-◌, ◌*◌, ◌≤◌, ◌<◌}
use native.Mathlib.Omega.{arith}
use lib.ListN.{length, take, drop}
use borrow.Author.Tests.{le-leb, lt-leb, leb-true}
use Rattle.answer.specs.Test.{must, file_limit}
use Rattle.answer.specs.declared.Refusal.{Refusal}
use Rattle.answer.proofs.Laws.{must_on, must_off}
use Rattle.fields.proofs.Laws.{le_or_lt}
use Rattle.unwind_operation.specs.Operation.{known_version_of, slot_count, next_code_of}
use Rattle.unwind_operation.specs.declared.UnwindCode.{UnwindCode}
use Rattle.unwind_operation.specs.declared.TakenCode.{TakenCode}
use Rattle.unwind_operation.proofs.Laws.{code_within}
use Rattle.unwind_info.specs.Unwind.{codes_end, read_header_of, read_follows_of, info_of, read_info_of}
use Rattle.unwind_info.specs.declared.UnwindHeader.{UnwindHeader}
use Rattle.unwind_info.specs.declared.UnwindInfo.{UnwindInfo}
use Rattle.unwind_info.specs.declared.Follows.{Follows}
use Rattle.unwind_info.proofs.Laws.{header_told, header_start, info_whole}
use Rattle.unwind_codes.specs.Codes.{CodesEnd, whole, stopped, on_codes_end, Codes, finished, refused_here, preceded, codes_from, codes_at, slots_of, codes_of, WholeInfo, has, refused_whole, whole_info_at, checked_of, Nth, here, fewer, refused_before, nth_of, read_code_of}
use Rattle.unwind_codes.specs.Code.{count_by, count_in, nth_in}
use Rattle.unwind_codes.specs.declared.CheckedInfo.{CheckedInfo}

-- A turn of the walk over slots.
module _ (s : List ℕ) (v frame : ℕ) where
  abbrev pub turn_by : ℕ → Result TakenCode Refusal → Codes
  turn_by n x = on_ok x refused_here (λ t. preceded t.code (codes_from n s t.next v frame))

  abbrev turn : ℕ → ℕ → Codes
  turn n at = turn_by n (next_code_of s at v frame)

  from_end : (n at : ℕ) → slot_count s ≤ at → codes_from n s at v frame ≡ finished
  unfolding codes_from
  from_end zero at h = refl
  from_end (suc n) at h = rw (le-leb (slot_count s) at h)

  from_turn : (n at : ℕ) → at < slot_count s → codes_from (suc n) s at v frame ≡ turn n at
  unfolding codes_from
  from_turn n at h = rw (lt-leb (slot_count s) at h)

  same_turn : (x : Result TakenCode Refusal) (n m : ℕ)
      → ((t : TakenCode) → x ≡ Ok t → codes_from n s t.next v frame ≡ codes_from m s t.next v frame) → turn_by n x ≡ turn_by m x
  same_turn (Ok t) n m f = rw (f t refl)
  same_turn (Err k) n m f = refl

  -- a bound that is not below the slots left is never reached
  pub enough : (n m at : ℕ) → slot_count s ≤ at + n → slot_count s ≤ at + m → codes_from n s at v frame ≡ codes_from m s at v frame
  enough zero m at a b = from_end zero at (omega arith) ∙ sym (from_end m at (omega arith))
  enough (suc n) zero at a b = from_end (suc n) at (omega arith) ∙ sym (from_end zero at (omega arith))
  enough (suc n) (suc m) at a b =
      ⊎_elim
      (λ h. from_end (suc n) at h ∙ sym (from_end (suc m) at h))
      (λ h.
      from_turn n at h
      ∙ same_turn (next_code_of s at v frame) n m
      (λ t e.
      let w = code_within s at v frame (sym e) in
      enough n m t.next (omega (arith, w.first)) (omega (arith, w.first)))
      ∙ sym (from_turn m at h))
      (le_or_lt (slot_count s) at)

  module _ (at : ℕ) where
    pub codes_end_lem : slot_count s ≤ at → finished ≡ codes_at s at v frame
    unfolding codes_at
    codes_end_lem h = sym (from_end (slot_count s - at) at h)

    module _ (h : at < slot_count s) {r : Result TakenCode Refusal} (e : r ≡ next_code_of s at v frame) where
      at_turn : codes_at s at v frame ≡ turn (slot_count s) at
      unfolding codes_at
      at_turn = enough (slot_count s - at) (suc (slot_count s)) at (omega arith) (omega arith) ∙ from_turn (slot_count s) at h

      pub codes_refused : {k : Refusal} → r ≡ Err k → refused_here k ≡ codes_at s at v frame
      codes_refused f = rw (at_turn, ← e, f)

      pub codes_more : {t : TakenCode} → r ≡ Ok t → preceded t.code (codes_at s t.next v frame) ≡ codes_at s at v frame
      unfolding codes_at
      codes_more {t} f =
          let g : codes_from (slot_count s - t.next) s t.next v frame ≡ codes_from (slot_count s) s t.next v frame =
          enough (slot_count s - t.next) (slot_count s) t.next (omega arith) (omega arith) in
          let z : codes_from (slot_count s - at) s at v frame ≡ turn (slot_count s) at = at_turn in
          rw (z, ← e, f, g)

-- The number of codes, `n` of them passed.
abbrev pub count_from : ℕ → Codes → Result ℕ Refusal
count_from n cs = count_by cs.end (n + length cs.listed)

pub count_start : (cs : Codes) → count_in cs ≡ count_from 0 cs
count_start cs = let e : length cs.listed ≡ 0 + length cs.listed = omega arith in ap (count_by cs.end) e

module _ (s : List ℕ) (v frame at n : ℕ) where
  pub count_end : slot_count s ≤ at → Ok n ≡ count_from n (codes_at s at v frame)
  count_end h = let e : n ≡ n + 0 = omega arith in rw (← codes_end_lem s v frame at h) (ap Ok e)

  module _ (h : at < slot_count s) {r : Result TakenCode Refusal} (e : r ≡ next_code_of s at v frame) where
    pub count_refused : {k : Refusal} → r ≡ Err k → Err k ≡ count_from n (codes_at s at v frame)
    count_refused f = rw (← codes_refused s v frame at h e f)

    pub count_more : {t : TakenCode} → r ≡ Ok t
        → count_from n (codes_at s at v frame) ≡ count_from (n + 1) (codes_at s t.next v frame)
    count_more {t} f =
        let cs = codes_at s t.next v frame in
        let g : n + suc (length cs.listed) ≡ n + 1 + length cs.listed = omega arith in
        rw (← codes_more s v frame at h e f) (ap (count_by cs.end) g)

-- The code at an index, `i` of them left to pass.
nth_of_lem : (cs : Codes) (c : UnwindCode) (i : ℕ) → (i ≡ 0 → ⊥) → nth_of (preceded c cs) i ≡ nth_of cs (i - 1)
nth_of_lem cs c zero p = absurd (p refl)
nth_of_lem cs c (suc i) p = let e : suc i - 1 ≡ i = omega arith in rw e

module _ (s : List ℕ) (v frame at i : ℕ) where
  pub nth_past : slot_count s ≤ at → fewer ≡ nth_of (codes_at s at v frame) i
  nth_past h = rw (← codes_end_lem s v frame at h)

  module _ (h : at < slot_count s) {r : Result TakenCode Refusal} (e : r ≡ next_code_of s at v frame) where
    pub nth_refused : {k : Refusal} → r ≡ Err k → refused_before k ≡ nth_of (codes_at s at v frame) i
    nth_refused f = rw (← codes_refused s v frame at h e f)

    pub nth_here : {t : TakenCode} → r ≡ Ok t → i ≡ 0 → here t.code ≡ nth_of (codes_at s at v frame) i
    nth_here f z = rw (← codes_more s v frame at h e f, z)

    pub nth_more : {t : TakenCode} → r ≡ Ok t → (i ≡ 0 → ⊥)
        → nth_of (codes_at s at v frame) i ≡ nth_of (codes_at s t.next v frame) (i - 1)
    nth_more {t} f p = rw (← codes_more s v frame at h e f) (nth_of_lem (codes_at s t.next v frame) t.code i p)

-- the slots that the code lends are those of the info
pub slots_lent : (s : List ℕ) (h : UnwindHeader) → slots_of s h ≡ take (codes_end h - h.code_start) (drop h.code_start s)
slots_lent s h = let n : codes_end h - h.code_start ≡ 2 * h.count_of_codes = omega arith in rw n

by_count : (e : CodesEnd) (m : ℕ) {n : ℕ} → Ok n ≡ count_by e m → (e ≡ whole) × (n ≡ m)
by_count whole m f = (refl, cc)
by_count (stopped k) m f = absurd (let z : ◌≡◌ {A = ℕ} 0 1 = cc in omega arith)

by_refusal : (e : CodesEnd) (m : ℕ) {k : Refusal} → Err k ≡ count_by e m → e ≡ stopped k
by_refusal whole m f = absurd (let z : ◌≡◌ {A = ℕ} 0 1 = cc in omega arith)
by_refusal (stopped j) m f = cc

-- what the number of codes tells, and what its refusal does
module _ (cs : Codes) {r : Result ℕ Refusal} (e : r ≡ count_in cs) where
  pub count_told : {n : ℕ} → r ≡ Ok n → (cs.end ≡ whole) × (n ≡ length cs.listed)
  count_told f = by_count cs.end (length cs.listed) (sym f ∙ e)

  pub refusal_told : {k : Refusal} → r ≡ Err k → cs.end ≡ stopped k
  refusal_told f = by_refusal cs.end (length cs.listed) (sym f ∙ e)

-- the info with its codes, a law for each outcome
module _ (s : List ℕ) (at : ℕ) where
  pub whole_long : {q : Refusal} → file_limit < length s → q ≡ refuse_of limit → refused_whole q ≡ whole_info_at s at
  unfolding whole_info_at
  whole_long l e = must_off refused_whole _ _ _ (lt-leb _ _ l) e

  module _ (l : length s ≤ file_limit) {r : Result UnwindHeader Refusal} (e : r ≡ read_header_of s at) where
    pub whole_header : {k : Refusal} → r ≡ Err k → refused_whole k ≡ whole_info_at s at
    unfolding whole_info_at
    whole_header f = must_on refused_whole _ _ _ (le-leb _ _ l) (rw (← e, f))

    module _ {h : UnwindHeader} (f : r ≡ Ok h) where
      pub whole_codes : {k : Refusal} → (codes_of s h).end ≡ stopped k → refused_whole k ≡ whole_info_at s at
      unfolding whole_info_at
      whole_codes g = must_on refused_whole _ _ _ (le-leb _ _ l) (rw (← e, f, g))

      module _ (g : (codes_of s h).end ≡ whole) {q : Result Follows Refusal} (d : q ≡ read_follows_of s h.follows_at h.flags) where
        pub whole_follows : {k : Refusal} → q ≡ Err k → refused_whole k ≡ whole_info_at s at
        unfolding whole_info_at
        whole_follows b = must_on refused_whole _ _ _ (le-leb _ _ l) (rw (← e, f, g, ← d, b))

        pub whole_is : {x : Follows} → q ≡ Ok x → has (info_of h x) (codes_of s h).listed ≡ whole_info_at s at
        unfolding whole_info_at
        whole_is b = must_on refused_whole _ _ _ (le-leb _ _ l) (rw (← e, f, g, ← d, b))

-- its answer, from the info and the number
pub checked_is : {i : UnwindInfo} {n : ℕ} {cs : List UnwindCode} {w : WholeInfo} → n ≡ length cs → has i cs ≡ w
    → Ok (record { info = i; codes = n }) ≡ checked_of w
checked_is f g = rw (f, ← g)

-- the code at an index, a law for each outcome
module _ (s : List ℕ) (at i : ℕ) where
  pub code_long : {q : Refusal} → file_limit < length s → q ≡ refuse_of limit → Err q ≡ read_code_of s at i
  unfolding read_code_of
  code_long l e = must_off Err _ _ _ (lt-leb _ _ l) e

  module _ (l : length s ≤ file_limit) {r : Result UnwindHeader Refusal} (e : r ≡ read_header_of s at) where
    pub code_header : {k : Refusal} → r ≡ Err k → Err k ≡ read_code_of s at i
    unfolding read_code_of
    code_header f = must_on Err _ _ _ (le-leb _ _ l) (rw (← e, f))

    module _ {h : UnwindHeader} (f : r ≡ Ok h) {w : Nth} (g : w ≡ nth_of (codes_of s h) i) where
      pub code_refused : {k : Refusal} → w ≡ refused_before k → Err k ≡ read_code_of s at i
      unfolding read_code_of
      code_refused d = must_on Err _ _ _ (le-leb _ _ l) (rw (← e, f, ← g, d))

      module _ {q : Result Follows Refusal} (b : q ≡ read_follows_of s h.follows_at h.flags) where
        pub code_here : {c : UnwindCode} {y : Follows} → w ≡ here c → q ≡ Ok y → Ok c ≡ read_code_of s at i
        unfolding read_code_of
        code_here d a = must_on Err _ _ _ (le-leb _ _ l) (rw (← e, f, ← g, d, ← b, a))

        pub code_past : {y : Follows} {p : Refusal} → w ≡ fewer → q ≡ Ok y → p ≡ refuse_of not_found
            → Err p ≡ read_code_of s at i
        unfolding read_code_of
        code_past d a z = must_on Err _ _ _ (le-leb _ _ l) (rw (← e, f, ← g, d, ← b, a, z))

        pub code_here_cut : {c : UnwindCode} {k : Refusal} → w ≡ here c → q ≡ Err k → Err k ≡ read_code_of s at i
        unfolding read_code_of
        code_here_cut d a = must_on Err _ _ _ (le-leb _ _ l) (rw (← e, f, ← g, d, ← b, a))

        pub code_past_cut : {k : Refusal} → w ≡ fewer → q ≡ Err k → Err k ≡ read_code_of s at i
        unfolding read_code_of
        code_past_cut d a = must_on Err _ _ _ (le-leb _ _ l) (rw (← e, f, ← g, d, ← b, a))

        -- the same by what the code to reach is, as the code has it: there, or past the last
        pub code_given : (o : Option UnwindCode) {x : Result UnwindCode Refusal} {y : Follows} {p : Refusal} → w ≡ nth_in (Ok o) → q ≡ Ok y
            → p ≡ refuse_of not_found → x ≡ ok_or o p → x ≡ read_code_of s at i
        code_given (Some c) d a z j = j ∙ code_here d a
        code_given None d a z j = j ∙ code_past d a z

        pub code_cut : (o : Option UnwindCode) {k : Refusal} → w ≡ nth_in (Ok o) → q ≡ Err k → Err k ≡ read_code_of s at i
        code_cut (Some c) d a = code_here_cut d a
        code_cut None d a = code_past_cut d a

has_never : {i : UnwindInfo} {cs : List UnwindCode} {k : Refusal} → has i cs ≡ refused_whole k → ⊥
has_never e = let z : ◌≡◌ {A = ℕ} 0 1 = cc in omega arith

same_info : {i j : UnwindInfo} {cs ds : List UnwindCode} → has i cs ≡ has j ds → i ≡ j
same_info e = cc

same_codes : {i j : UnwindInfo} {cs ds : List UnwindCode} → has i cs ≡ has j ds → cs ≡ ds
same_codes e = cc

-- the codes of an info, all decoded
abbrev pub all : List UnwindCode → Codes
all cs = record { listed = cs; end = whole }

-- what an info with its codes says of its parts
pub record Parts (s : List ℕ) (at : ℕ) (i : UnwindInfo) (cs : List UnwindCode) : Type 0 where
  pub limited : length s ≤ file_limit
  pub headed : Ok i.header ≡ read_header_of s at
  pub codes : all cs ≡ codes_of s i.header
  pub followed : Ok i.follows ≡ read_follows_of s i.header.follows_at i.header.flags

-- an info with its codes, once its header is read
abbrev whole_by : UnwindHeader → CodesEnd → List UnwindCode → Result Follows Refusal → WholeInfo
whole_by h x ds q = on_codes_end x refused_whole (on_ok q refused_whole (λ f. has (info_of h f) ds))

module _ (s : List ℕ) (at : ℕ) (i : UnwindInfo) (cs : List UnwindCode) (l : length s ≤ file_limit) (h : UnwindHeader)
    (e : Ok h ≡ read_header_of s at) (ds : Codes) (d : ds ≡ codes_of s h) where
  told_follows : ds.end ≡ whole → (q : Result Follows Refusal) → q ≡ read_follows_of s h.follows_at h.flags
      → has i cs ≡ whole_by h whole ds.listed q → Parts s at i cs
  told_follows g (Ok f) b a =
      rw (same_info a) (record { limited = l; headed = e; codes = rw (same_codes a, ← g) d; followed = b })
  told_follows g (Err k) b a = absurd (has_never a)

  told_codes : (x : CodesEnd) → ds.end ≡ x → has i cs ≡ whole_by h x ds.listed (read_follows_of s h.follows_at h.flags)
      → Parts s at i cs
  told_codes whole g a = told_follows g (read_follows_of s h.follows_at h.flags) refl a
  told_codes (stopped k) g a = absurd (has_never a)

told_header : (s : List ℕ) (at : ℕ) (i : UnwindInfo) (cs : List UnwindCode) → length s ≤ file_limit → (r : Result UnwindHeader Refusal)
    → r ≡ read_header_of s at
    → has i cs
    ≡ on_ok r refused_whole
    (λ h. whole_by h (codes_of s h).end (codes_of s h).listed (read_follows_of s h.follows_at h.flags))
    → Parts s at i cs
told_header s at i cs l (Ok h) e a = told_codes s at i cs l h e (codes_of s h) refl (codes_of s h).end refl a
told_header s at i cs l (Err k) e a = absurd (has_never a)

told_limit : (test : Bool) (x : WholeInfo) {i : UnwindInfo} {cs : List UnwindCode} → has i cs ≡ must refused_whole test limit x
    → (test ≡ true) × (has i cs ≡ x)
unfolding must
told_limit true x e = (refl, e)
told_limit false x e = absurd (has_never e)

pub whole_told : (s : List ℕ) (at : ℕ) {i : UnwindInfo} {cs : List UnwindCode} → has i cs ≡ whole_info_at s at → Parts s at i cs
unfolding whole_info_at
whole_told s at {i} {cs} e =
    let p = told_limit _ _ e in
    told_header s at i cs (leb-true (length s) file_limit p.0) (read_header_of s at) refl p.1

-- what an answer tells: the info has as many codes as it says, or it is refused
pub record Has (w : WholeInfo) (c : CheckedInfo) : Type 0 where
  pub codes : List UnwindCode
  pub is : has c.info codes ≡ w
  pub many : c.codes ≡ length codes

same_checked : {c d : CheckedInfo} → ◌≡◌ {A = Result CheckedInfo Refusal} (Ok c) (Ok d) → c ≡ d
same_checked e = cc

same_refusal : {k j : Refusal} → ◌≡◌ {A = Result CheckedInfo Refusal} (Err k) (Err j) → k ≡ j
same_refusal e = cc

pub checked_told : (w : WholeInfo) {c : CheckedInfo} → Ok c ≡ checked_of w → Has w c
checked_told (has i cs) {c} e =
    let f = same_checked e in
    record { codes = cs; is = ap (λ (d : CheckedInfo). has d.info cs) f; many = ap (λ (d : CheckedInfo). d.codes) f }
checked_told (refused_whole k) e = absurd (let z : ◌≡◌ {A = ℕ} 0 1 = cc in omega arith)

pub checked_refused : (w : WholeInfo) {k : Refusal} → Err k ≡ checked_of w → refused_whole k ≡ w
checked_refused (has i cs) e = absurd (let z : ◌≡◌ {A = ℕ} 0 1 = cc in omega arith)
checked_refused (refused_whole j) e = ap refused_whole (same_refusal e)

-- an info with its codes is the info
pub whole_info : (s : List ℕ) (at : ℕ) {i : UnwindInfo} {cs : List UnwindCode} → has i cs ≡ whole_info_at s at
    → Ok i ≡ read_info_of s at
whole_info s at e = let p = whole_told s at e in info_whole s at p.limited p.headed refl p.followed refl

-- where the slots of an info with its codes are: what decoding them again needs
pub record Slots (s : List ℕ) (i : UnwindInfo) (cs : List UnwindCode) : Type 0 where
  pub known : known_version_of i.header.version ≡ true
  pub inside : codes_end i.header ≤ length s
  pub codes : all cs ≡ codes_of s i.header

pub whole_slots : (s : List ℕ) (at : ℕ) {i : UnwindInfo} {cs : List UnwindCode} → has i cs ≡ whole_info_at s at → Slots s i cs
whole_slots s at e =
    let p = whole_told s at e in
    let w = header_told s at p.headed in
    let b = header_start s at w in
    record { known = w.known; inside = omega (arith, w.inside); codes = p.codes }
