-- The laws of an unwind info, one for each outcome of a check: what proofs of readers cite.
-- Assumes nothing.
use Rattle.unwind_info.specs.declared.UnwindInfo.{UnwindInfo}
use Rattle.std.specs.Prelude.{Result, Ok, Err}
use Rattle.answer.specs.Answer.{on_ok, refuse_of, limit, version, cut_of}
use mathlib.Core.Path.{◌≡◌, refl, sym, ap, ◌∙◌}
use mathlib.Core.List.{List, [], ◌∷◌}
use mathlib.Core.Bool.{Bool, true, false}
use mathlib.Core.Logic.{⊎_elim}
use Prim.Native.Nat.{ℕ, ◌+◌, ◌-◌, ◌*◌, ◌%◌, ◌≤◌, ◌<◌}
use native.Mathlib.Omega.{arith}
use lib.ListN.{length}
use borrow.Author.Tests.{le-leb, lt-leb}
use Rattle.answer.specs.Test.{pick, must, file_limit}
use Rattle.answer.specs.declared.Refusal.{Refusal}
use Rattle.answer.proofs.Laws.{must_on, must_off}
use Rattle.fields.specs.Number.{number_at}
use Rattle.fields.proofs.Laws.{Missed, le_or_lt, field_value, field_cut}
use Rattle.cursor.proofs.Laws.{Took}
use Rattle.layout.specs.Layout.{widths, the, numbers_at}
use Rattle.layout.proofs.Laws.{full_is, missed_at}
use Rattle.layout.proofs.Theorems.{Reads, whole, cut as missing, reads}
use Rattle.runtime_function.specs.RuntimeFunction.{read_of}
use Rattle.runtime_function.specs.declared.RuntimeFunction.{RuntimeFunction}
use Rattle.unwind_operation.specs.Operation.{known_version_of}
use Rattle.unwind_info.specs.Unwind.{fields, first, others, version_of, header_of, codes_end, with_slots, rest_at, read_header_of, exception_flag, termination_flag, chain_flag, handler_of, handler_at, chained_at, read_follows_of, info_of, read_info_of}
use Rattle.unwind_info.specs.declared.UnwindHeader.{UnwindHeader}
use Rattle.unwind_info.specs.declared.HandlerKind.{HandlerKind}
use Rattle.unwind_info.specs.declared.HandlerKind.TheVariants.{Exception, Termination}
use Rattle.unwind_info.specs.declared.Follows.{Follows}
use Rattle.unwind_info.specs.declared.Follows.TheVariants.{Nothing, Chained, Handler}

-- the slots, all there or not
module _ (s : List ℕ) (h : UnwindHeader) where
  pub slots_there : codes_end h ≤ length s → Ok h ≡ with_slots s h
  unfolding with_slots
  slots_there l = rw (le-leb _ _ l)

  pub slots_cut : {q : Refusal} → length s < codes_end h → q ≡ cut_of (codes_end h) → Err q ≡ with_slots s h
  unfolding with_slots
  slots_cut l e = rw (lt-leb _ _ l, e)

-- the header after its first byte
module _ (s : List ℕ) (at byte : ℕ) where
  pub rest_whole : {a b d i j n : ℕ} {x : Result UnwindHeader Refusal} → Took false 1 s at a i → Took false 1 s i b j → Took false 1 s j d n
      → x ≡ with_slots s (header_of n (byte ∷ a ∷ b ∷ d ∷ [])) → x ≡ rest_at s at byte
  unfolding rest_at numbers_at
  rest_whole {a} {b} {d} {i} {j} {n} f g h e =
      let p : n ≡ at + 3 = omega (arith, f.past, g.past, h.past) in
      let z = h.inside in
      full_is false s _ _ (widths others) at (omega (arith, f.past, g.past, h.past))
      (e ∙ rw (f.value, g.value, h.value, g.past, f.past, p))

-- the header
module _ (s : List ℕ) (at : ℕ) where
  -- what is read after the first byte
  abbrev from : List ℕ → Result UnwindHeader Refusal
  from ns = must Err (known_version_of (version_of ns)) version (rest_at s (at + 1) (the fields "Version and flags" ns))

  pub header_cut : {i : ℕ} {q : Refusal} → i ≡ at → Missed 1 s i q → Err q ≡ read_header_of s at
  unfolding read_header_of
  header_cut e m = missed_at false (widths first) 0 (omega arith) _ Err s at _ m (omega arith) (λ z. omega arith)

  module _ {i b n : ℕ} (e : i ≡ at) (f : Took false 1 s i b n) where
    byte : b ≡ number_at false 1 s at
    byte = f.value ∙ rw e

    header_by : {x : Result UnwindHeader Refusal} → x ≡ from (b ∷ []) → x ≡ read_header_of s at
    unfolding read_header_of numbers_at
    header_by d = full_is false s from _ (widths first) at (omega (arith, f.inside)) (d ∙ rw byte)

    pub header_version : {q : Refusal} → known_version_of (b % 8) ≡ false → q ≡ refuse_of version → Err q ≡ read_header_of s at
    header_version k d = header_by (must_off Err _ version (rest_at s (at + 1) b) k d)

    pub header_rest : {x : Result UnwindHeader Refusal} → known_version_of (b % 8) ≡ true → x ≡ rest_at s n b → x ≡ read_header_of s at
    header_rest k d =
        let p : n ≡ at + 1 = omega (arith, f.past) in
        header_by (must_on Err _ version (rest_at s (at + 1) b) k (rw p at d))

-- a handler
module _ (s : List ℕ) (at : ℕ) (kind : HandlerKind) where
  pub handler_cut : {i : ℕ} {q : Refusal} → i ≡ at → Missed 4 s i q → Err q ≡ handler_at s at kind
  unfolding handler_at
  handler_cut e m = field_cut _ Err false 4 s at (omega (arith, m.past)) (m.why ∙ rw e)

  pub handler_there : {i a n : ℕ} → i ≡ at → Took false 4 s i a n
      → Ok (Handler (record { kind = kind; address = a; start = n; length = length s - n })) ≡ handler_at s at kind
  unfolding handler_at
  handler_there {i} {a} {n} e f =
      let p : n ≡ at + 4 = omega (arith, f.past) in
      let v : ℕ → Result Follows Refusal = λ x. Ok (handler_of s at kind x) in
      rw p (field_value v Err false 4 s at (omega (arith, f.inside)) (f.value ∙ rw e))

-- a chained record
module _ (s : List ℕ) (at : ℕ) {r : Result RuntimeFunction Refusal} (e : r ≡ read_of s at) where
  pub chained_there : {x : RuntimeFunction} → r ≡ Ok x → Ok (Chained x) ≡ chained_at s at
  unfolding chained_at
  chained_there f = rw (← e, f)

  pub chained_cut : {k : Refusal} → r ≡ Err k → Err k ≡ chained_at s at
  unfolding chained_at
  chained_cut f = rw (← e, f)

-- what follows the codes
module _ (s : List ℕ) (at flags : ℕ) where
  pub follows_chained : {x : Result Follows Refusal} → chain_flag flags ≡ true → x ≡ chained_at s at → x ≡ read_follows_of s at flags
  unfolding read_follows_of
  follows_chained t d = d ∙ rw t

  module _ (u : chain_flag flags ≡ false) where
    pub follows_exception : {x : Result Follows Refusal} → exception_flag flags ≡ true → x ≡ handler_at s at Exception → x ≡ read_follows_of s at flags
    unfolding read_follows_of
    follows_exception t d = d ∙ rw (u, t)

    pub follows_termination : {x : Result Follows Refusal} → exception_flag flags ≡ false → termination_flag flags ≡ true
        → x ≡ handler_at s at Termination → x ≡ read_follows_of s at flags
    unfolding read_follows_of
    follows_termination v t d = d ∙ rw (u, v, t)

    pub follows_nothing : exception_flag flags ≡ false → termination_flag flags ≡ false → Ok Nothing ≡ read_follows_of s at flags
    unfolding read_follows_of
    follows_nothing v t = rw (u, v, t)

-- the info with this header
abbrev pub info_by : UnwindHeader → Result Follows Refusal → Result UnwindInfo Refusal
info_by h q = on_ok q Err (λ f. Ok (info_of h f))

-- the info
module _ (s : List ℕ) (at : ℕ) where
  pub info_long : {q : Refusal} → file_limit < length s → q ≡ refuse_of limit → Err q ≡ read_info_of s at
  unfolding read_info_of
  info_long l e = must_off Err _ _ _ (lt-leb _ _ l) e

  module _ (l : length s ≤ file_limit) {r : Result UnwindHeader Refusal} (e : r ≡ read_header_of s at) where
    pub info_refused : {k : Refusal} → r ≡ Err k → Err k ≡ read_info_of s at
    unfolding read_info_of
    info_refused f = must_on Err _ _ _ (le-leb _ _ l) (rw (← e, f))

    module _ {h : UnwindHeader} (f : r ≡ Ok h) {q : Result Follows Refusal} (g : q ≡ read_follows_of s h.follows_at h.flags) where
      pub info_cut : {k : Refusal} → q ≡ Err k → Err k ≡ read_info_of s at
      unfolding read_info_of
      info_cut d = must_on Err _ _ _ (le-leb _ _ l) (rw (← e, f, ← g, d))

      pub info_whole : {x : Follows} → q ≡ Ok x → Ok (info_of h x) ≡ read_info_of s at
      unfolding read_info_of
      info_whole d = must_on Err _ _ _ (le-leb _ _ l) (rw (← e, f, ← g, d))

pub info_by_lem : (s : List ℕ) (at : ℕ) → length s ≤ file_limit → {h : UnwindHeader} → Ok h ≡ read_header_of s at
    → info_by h (read_follows_of s h.follows_at h.flags) ≡ read_info_of s at
unfolding read_info_of
info_by_lem s at l e = must_on Err _ _ _ (le-leb _ _ l) (rw (← e))

pub never : {h : UnwindHeader} {k : Refusal} → Ok h ≡ Err k → ⊥
never e = let z : ◌≡◌ {A = ℕ} 0 1 = cc in omega arith

same_header : {h g : UnwindHeader} → ◌≡◌ {A = Result UnwindHeader Refusal} (Ok h) (Ok g) → h ≡ g
same_header e = cc

-- what a header that was read says
pub record HeaderWhole (s : List ℕ) (at : ℕ) (h : UnwindHeader) : Type 0 where
  pub known : known_version_of h.version ≡ true
  pub value : h ≡ header_of (at + 4) (number_at false 1 s at ∷ numbers_at false (widths others) s (at + 1))
  pub inside : at + 4 + 2 * h.count_of_codes ≤ length s

slots_told : (s : List ℕ) (g : UnwindHeader) {h : UnwindHeader} → Ok h ≡ with_slots s g → (h ≡ g) × (codes_end g ≤ length s)
slots_told s g {h} e =
    ⊎_elim
    (λ l. (same_header (e ∙ sym (slots_there s g l)), l))
    (λ l. absurd (never (e ∙ sym (slots_cut s g l refl))))
    (le_or_lt (codes_end g) (length s))

-- the header after its first byte, by its numbers
abbrev rest_of : List ℕ → ℕ → ℕ → UnwindHeader
rest_of s at byte = header_of (at + 3) (byte ∷ numbers_at false (widths others) s at)

rest_by : (s : List ℕ) (at byte : ℕ) {h : UnwindHeader} {x : Result UnwindHeader Refusal} → Ok h ≡ x
    → Reads (with_slots s (rest_of s at byte)) (λ end. Err (cut_of end)) (widths others) s at x
    → (h ≡ rest_of s at byte) × (at + 3 + 2 * h.count_of_codes ≤ length s)
rest_by s at byte {h} e (whole r f) = let p = slots_told s (rest_of s at byte) (e ∙ f) in (p.0, rw p.0 p.1)
rest_by s at byte e (missing n a b f) = absurd (never (e ∙ f))

rest_told : (s : List ℕ) (at byte : ℕ) {h : UnwindHeader} → Ok h ≡ rest_at s at byte
    → (h ≡ rest_of s at byte) × (at + 3 + 2 * h.count_of_codes ≤ length s)
unfolding rest_at
rest_told s at byte e =
    rest_by s at byte e
    (reads (λ ns. with_slots s (header_of (at + 3) (byte ∷ ns))) (λ end. Err (cut_of end)) false (widths others) s at)

version_told : (test : Bool) (x : Result UnwindHeader Refusal) {h : UnwindHeader} → Ok h ≡ must Err test version x
    → (test ≡ true) × (Ok h ≡ x)
unfolding must
version_told true x e = (refl, e)
version_told false x e = absurd (never e)

header_go : (s : List ℕ) (at : ℕ) {h : UnwindHeader} {x : Result UnwindHeader Refusal} → Ok h ≡ x
    → Reads (from s at (number_at false 1 s at ∷ [])) (λ end. Err (cut_of end)) (widths first) s at x → HeaderWhole s at h
header_go s at e (whole r f) =
    let v = version_told _ _ (e ∙ f) in
    let p = rest_told s (at + 1) (number_at false 1 s at) v.1 in
    let n : at + 1 + 3 ≡ at + 4 = omega arith in
    record { known = rw p.0 v.0; value = rw n at p.0; inside = omega (arith, p.1) }
header_go s at e (missing n a b f) = absurd (never (e ∙ f))

pub header_told : (s : List ℕ) (at : ℕ) {h : UnwindHeader} → Ok h ≡ read_header_of s at → HeaderWhole s at h
unfolding read_header_of numbers_at
header_told s at e = header_go s at e (reads (from s at) (λ end. Err (cut_of end)) false (widths first) s at)

-- its slots start after its four bytes
pub header_start : (s : List ℕ) (at : ℕ) {h : UnwindHeader} → HeaderWhole s at h → h.code_start ≡ at + 4
header_start s at w = ap (λ (g : UnwindHeader). g.code_start) w.value

-- the data of a handler runs to the end of the file
abbrev pub ends : List ℕ → Follows → Type 0
ends s Nothing = Unit
ends s (Chained e) = Unit
ends s (Handler h) = h.start + h.length ≡ length s

abbrev Ends : List ℕ → Result Follows Refusal → Type 0
Ends s (Ok f) = ends s f
Ends s (Err k) = Unit

handler_ends : (s : List ℕ) (at : ℕ) (kind : HandlerKind) → Ends s (handler_at s at kind)
unfolding handler_at
handler_ends s at kind =
    let value : ℕ → Result Follows Refusal = λ address. Ok (handler_of s at kind address) in
    ⊎_elim
    (λ l. rw (sym (field_value value Err false 4 s at l refl)) (omega arith))
    (λ l. rw (sym (field_cut value Err false 4 s at l refl)) tt)
    (le_or_lt (at + 4) (length s))

record_ends : (s : List ℕ) (r : Result RuntimeFunction Refusal)
    → Ends s (on_ok r Err (λ e. Ok (Chained e)))
record_ends s (Ok e) = tt
record_ends s (Err k) = tt

chained_ends : (s : List ℕ) (at : ℕ) → Ends s (chained_at s at)
unfolding chained_at
chained_ends s at = record_ends s (read_of s at)

by_flag : (s : List ℕ) (test : Bool) (x y : Result Follows Refusal) → Ends s x → Ends s y → Ends s (pick test x y)
by_flag s true x y e f = e
by_flag s false x y e f = f

pub follows_ends : (s : List ℕ) (at flags : ℕ) → Ends s (read_follows_of s at flags)
unfolding read_follows_of
follows_ends s at flags =
    by_flag s (chain_flag flags) _ _ (chained_ends s at)
    (by_flag s (exception_flag flags) _ _ (handler_ends s at Exception)
    (by_flag s (termination_flag flags) _ _ (handler_ends s at Termination) tt))

abbrev pub InfoEnds : List ℕ → Result UnwindInfo Refusal → Type 0
InfoEnds s (Ok i) = ends s i.follows
InfoEnds s (Err k) = Unit

by_follows : (s : List ℕ) (h : UnwindHeader) (q : Result Follows Refusal) → Ends s q → InfoEnds s (info_by h q)
by_follows s h (Ok f) e = e
by_follows s h (Err k) e = tt

by_header : (s : List ℕ) (r : Result UnwindHeader Refusal)
    → InfoEnds s (on_ok r Err (λ h. info_by h (read_follows_of s h.follows_at h.flags)))
by_header s (Ok h) = by_follows s h (read_follows_of s h.follows_at h.flags) (follows_ends s h.follows_at h.flags)
by_header s (Err k) = tt

by_limit : (s : List ℕ) (test : Bool) (x : Result UnwindInfo Refusal) → InfoEnds s x → InfoEnds s (must Err test limit x)
unfolding must
by_limit s true x e = e
by_limit s false x e = tt

pub info_ends : (s : List ℕ) (at : ℕ) → InfoEnds s (read_info_of s at)
unfolding read_info_of
info_ends s at = by_limit s _ _ (by_header s (read_header_of s at))
