-- The laws of `specs/Fat.antt`: a law for each way that an answer comes about, and what an answer tells.
-- Assumes nothing.
use Rattle.std.specs.Prelude.{Result, Ok, Err, ℕ}
use Rattle.answer.specs.Answer.{on_ok, refuse_of, magic, limit, not_found}
use mathlib.Core.Path.{◌≡◌, refl, sym, ap, ◌∙◌}
use mathlib.Core.List.{List, [], ◌∷◌}
use mathlib.Core.Bool.{true}
use mathlib.Core.Logic.{⊎_elim}
use Prim.Native.Nat.{ℕ, zero, suc, ◌+◌, ◌*◌, ◌-◌, ◌≤◌, ◌<◌}
use native.Mathlib.Nat.{not-suc-le-zero, le_of_suc-le-suc}
use native.Mathlib.Omega.{arith}
use lib.ListN.{length, take, drop}
use lib.Dec.{leb, eqb}
use borrow.Author.Tests.{le-leb, lt-leb, leb-true, eq-eqb, ne_eqb, eqb-true}
use Rattle.answer.specs.Test.{file_limit}
use Rattle.answer.specs.declared.Refusal.{Refusal}
use Rattle.answer.proofs.Laws.{must_on, must_off}
use Rattle.fields.specs.Number.{number_at}
use Rattle.fields.proofs.Laws.{Missed, le_or_lt}
use Rattle.layout.specs.Layout.{Field, bytes_in, numbers_at}
use Rattle.layout.proofs.Laws.{missed_at, full_is}
use Rattle.layout.proofs.Theorems.{reads}
use Rattle.fat_member.specs.FatArch.{fat_arch, read_of, Inside}
use Rattle.fat_member.specs.declared.FatArch.{FatArch}
use Rattle.fat_member.proofs.Laws.{told_must, told_reads, member_inside}
use Rattle.fat.specs.Fat.{fat_magic, member_limit, header_in, Held, members, refused, more, members_at, held_in, count_of, open_of, nth, nth_of, member_at_of, bytes_at_of, start_of}
use Rattle.fat.proofs.Terms.{Header, There}

-- The header, check by check.
module _ (s : List ℕ) where
  pub header_long : {q : Refusal} → file_limit < length s → q ≡ refuse_of limit → Err q ≡ header_in s
  unfolding header_in
  header_long h e = must_off Err _ limit _ (lt-leb (length s) file_limit h) e

  module _ (short : length s ≤ file_limit) where
    pub header_no_magic : {i : ℕ} {q : Refusal} → Missed 4 s i q → i ≡ 0 → Err q ≡ header_in s
    unfolding header_in
    header_no_magic {i} m e =
        must_on Err _ limit _ (le-leb (length s) file_limit short)
        (missed_at true (4 ∷ []) 0 (omega arith) _ Err s 0 i m (omega arith) (λ z. omega arith))

    pub header_other : {q : Refusal} → 4 ≤ length s → (number_at true 4 s 0 ≡ fat_magic → ⊥) → q ≡ refuse_of magic
        → Err q ≡ header_in s
    unfolding header_in numbers_at
    header_other h n e =
        must_on Err _ limit _ (le-leb (length s) file_limit short)
        (full_is true s _ _ (4 ∷ []) 0 h
        (must_off Err _ magic _ (ne_eqb (number_at true 4 s 0) fat_magic n) e))

    module _ (right : number_at true 4 s 0 ≡ fat_magic) where
      pub header_no_count : {i : ℕ} {q : Refusal} → 4 ≤ length s → Missed 4 s i q → i ≡ 4 → Err q ≡ header_in s
      unfolding header_in numbers_at
      header_no_count {i} h m e =
          must_on Err _ limit _ (le-leb (length s) file_limit short)
          (full_is true s _ _ (4 ∷ []) 0 h
          (must_on Err _ magic _ (eq-eqb (number_at true 4 s 0) fat_magic right)
          (missed_at true (4 ∷ []) 0 (omega arith) _ Err s 4 i m (omega arith) (λ z. omega arith))))

      pub header_many : {q : Refusal} → 8 ≤ length s → member_limit < number_at true 4 s 4 → q ≡ refuse_of limit
          → Err q ≡ header_in s
      unfolding header_in numbers_at
      header_many h n e =
          must_on Err _ limit _ (le-leb (length s) file_limit short)
          (full_is true s _ _ (4 ∷ []) 0 (omega arith)
          (must_on Err _ magic _ (eq-eqb (number_at true 4 s 0) fat_magic right)
          (full_is true s _ _ (4 ∷ []) 4 h
          (must_off Err _ limit _ (lt-leb (number_at true 4 s 4) member_limit n) e))))

      pub header_count : {n : ℕ} → 8 ≤ length s → n ≤ member_limit → n ≡ number_at true 4 s 4 → Ok n ≡ header_in s
      unfolding header_in numbers_at
      header_count {n} h l e =
          must_on Err _ limit _ (le-leb (length s) file_limit short)
          (full_is true s _ _ (4 ∷ []) 0 (omega arith)
          (must_on Err _ magic _ (eq-eqb (number_at true 4 s 0) fat_magic right)
          (full_is true s _ _ (4 ∷ []) 4 h
          (must_on Err _ limit _ (le-leb (number_at true 4 s 4) member_limit (omega arith)) (ap Ok e)))))

-- What an accepted header says.
never : {n : ℕ} {k : Refusal} → Ok n ≡ Err k → ⊥
never e = let z : ◌≡◌ {A = ℕ} 0 1 = cc in omega arith

same_count : {n m : ℕ} → ◌≡◌ {A = Result ℕ Refusal} (Ok n) (Ok m) → n ≡ m
same_count e = cc

pub header_told : (s : List ℕ) (n : ℕ) → Ok n ≡ header_in s → Header s n
unfolding header_in numbers_at
header_told s =
    let P : Result ℕ Refusal → Type 0 = λ o. (n : ℕ) → Ok n ≡ o → Header s n in
    let refusals : (k : Refusal) → P (Err k) = λ k n e. absurd (never e) in
    told_must Err P refusals (leb (length s) file_limit) limit _
    (λ a. told_reads Err P refusals (reads _ _ true (4 ∷ []) s 0)
    (λ r. told_must Err P refusals (eqb (number_at true 4 s 0) fat_magic) magic _
    (λ b. told_reads Err P refusals (reads _ _ true (4 ∷ []) s 4)
    (λ q. told_must Err P refusals (leb (number_at true 4 s 4) member_limit) limit _
    (λ d n e. record {
      short = leb-true (length s) file_limit a;
      room = q (omega arith);
      right = eqb-true (number_at true 4 s 0) fat_magic b;
      count = same_count e;
      few = rw (same_count e) (leb-true (number_at true 4 s 4) member_limit d);
    })))))

-- The members, one after the other. How many are asked for is what an accepting answer counts.
abbrev pub counted : ℕ → Held → Result ℕ Refusal
counted n (members ms) = Ok n
counted n (refused k) = Err k

counted_more : (n : ℕ) (m : FatArch) (h : Held) → counted n (more m h) ≡ counted n h
counted_more n m (members ms) = refl
counted_more n m (refused k) = refl

count_more : (n : ℕ) (m : FatArch) (h : Held) → count_of h ≡ counted n h → count_of (more m h) ≡ counted (suc n) (more m h)
count_more n m (members ms) e = let l : length ms ≡ n = cc in rw l
count_more n m (refused k) e = refl

count_found : (n : ℕ) (f : Result FatArch Refusal) (h : Held) → count_of h ≡ counted n h
    → count_of (on_ok f refused (λ m. more m h)) ≡ counted (suc n) (on_ok f refused (λ m. more m h))
count_found n (Ok m) h e = count_more n m h e
count_found n (Err k) h e = refl

module _ (arch : List Field) (s : List ℕ) where
  count_members : (n at : ℕ) → count_of (members_at arch n s at) ≡ counted n (members_at arch n s at)
  unfolding members_at
  count_members zero at = refl
  count_members (suc n) at = count_found n (read_of arch s at) (members_at arch n s (at + bytes_in arch)) (count_members n (at + bytes_in arch))

  pub members_on : (n : ℕ) (at : ℕ) (c : ℕ) {m : FatArch} → 0 < n → Ok m ≡ read_of arch s at
      → counted c (members_at arch n s at) ≡ counted c (members_at arch (n - 1) s (at + bytes_in arch))
  unfolding members_at
  members_on zero at c h e = absurd (not-suc-le-zero h)
  members_on (suc n) at c {m} h e = let p : suc n - 1 ≡ n = omega arith in rw (← e, p)
      (counted_more c m (members_at arch n s (at + bytes_in arch)))

  pub members_stop : (n : ℕ) (at : ℕ) (c : ℕ) {k : Refusal} → 0 < n → Err k ≡ read_of arch s at
      → counted c (members_at arch n s at) ≡ Err k
  unfolding members_at
  members_stop zero at c h e = absurd (not-suc-le-zero h)
  members_stop (suc n) at c h e = rw (← e)

  pub members_none : (n : ℕ) (at : ℕ) (c : ℕ) → n ≤ 0 → counted c (members_at arch n s at) ≡ Ok c
  unfolding members_at
  members_none zero at c h = refl
  members_none (suc n) at c h = absurd (not-suc-le-zero h)

-- after `i` accepted members, the answer is that of the others
members_after : (arch : List Field) (s : List ℕ) (i n at c : ℕ) → i ≤ n → ((j : ℕ) → j < i → There (read_of arch s (at + j * bytes_in arch)))
    → counted c (members_at arch n s at) ≡ counted c (members_at arch (n - i) s (at + i * bytes_in arch))
members_after arch s zero n at c h g =
    let e : n - 0 ≡ n = omega arith in
    let d : at + 0 * bytes_in arch ≡ at = omega arith in
    rw (e, d)
members_after arch s (suc i) n at c h g =
    let t = g i (omega arith) in
    let e : n - i - 1 ≡ n - suc i = omega arith in
    let d : at + i * bytes_in arch + bytes_in arch ≡ at + suc i * bytes_in arch = omega arith in
    members_after arch s i n at c (omega arith) (λ j l. g j (omega arith))
    ∙ (members_on arch s (n - i) (at + i * bytes_in arch) c (omega arith) t.is ∙ rw (e, d))

-- what an accepting list says of its first member and of the others
record First (f : Result FatArch Refusal) (h : Held) (ms : List FatArch) : Type 0 where
  pub first : FatArch
  pub others : List FatArch
  pub found_first : f ≡ Ok first
  pub held_others : members others ≡ h
  pub all : ms ≡ first ∷ others

first_of_more : (m : FatArch) (h : Held) {ms : List FatArch} → members ms ≡ more m h → First (Ok m) h ms
first_of_more m (members os) e = record { first = m; others = os; found_first = refl; held_others = refl; all = cc }
first_of_more m (refused k) e = absurd (let z : ◌≡◌ {A = ℕ} 0 1 = cc in omega arith)

first_of_lem : (f : Result FatArch Refusal) (h : Held) {ms : List FatArch} → members ms ≡ on_ok f refused (λ m. more m h) → First f h ms
first_of_lem (Ok m) h e = first_of_more m h e
first_of_lem (Err k) h e = absurd (let z : ◌≡◌ {A = ℕ} 0 1 = cc in omega arith)

-- a member of the list is the one that is at its place
nth_first : (arch : List Field) (s : List ℕ) (at : ℕ) {h : Held} {ms : List FatArch} (i : ℕ) → (r : First (read_of arch s at) h ms) → i <
    length ms →
    ((j : ℕ) → members r.others ≡ h → j < length r.others → read_of arch s (at + bytes_in arch + j * bytes_in arch) ≡ nth r.others j)
    → read_of arch s (at + i * bytes_in arch) ≡ nth ms i
nth_first arch s at zero r l more = let e : at + 0 * bytes_in arch ≡ at = omega arith in rw (e, r.all) r.found_first
nth_first arch s at (suc j) r l more =
    let e : at + suc j * bytes_in arch ≡ at + bytes_in arch + j * bytes_in arch = omega arith in
    rw (e, r.all) (more j r.held_others (le_of_suc-le-suc (rw r.all at l)))

nth_go : (arch : List Field) (s : List ℕ) (n at : ℕ) {ms : List FatArch} (i : ℕ) → members ms ≡ members_at arch n s at → i < length ms
    → read_of arch s (at + i * bytes_in arch) ≡ nth ms i
unfolding members_at
nth_go arch s zero at {ms} i e h = let k : ms ≡ [] = cc in let l : i < 0 = rw k at h in absurd (not-suc-le-zero l)
nth_go arch s (suc n) at {ms} i e h = nth_first arch s at i (first_of_lem (read_of arch s at) (members_at arch n s (at + bytes_in arch)) e) h
    (λ j. nth_go arch s n (at + bytes_in arch) j)

nth_past : (ms : List FatArch) (i : ℕ) → length ms ≤ i → Err (refuse_of not_found) ≡ nth ms i
nth_past [] i h = refl
nth_past (m ∷ ms) zero h = absurd (not-suc-le-zero h)
nth_past (m ∷ ms) (suc i) h = nth_past ms i (le_of_suc-le-suc h)

nth_there : (ms : List FatArch) (i : ℕ) → i < length ms → There (nth ms i)
nth_there [] i h = absurd (not-suc-le-zero h)
nth_there (m ∷ ms) zero h = record { member = m; is = refl }
nth_there (m ∷ ms) (suc i) h = nth_there ms i (le_of_suc-le-suc h)

-- what an accepting answer says of the list that it counts
pub record Listed (h : Held) (n : ℕ) : Type 0 where
  pub list : List FatArch
  pub held : members list ≡ h
  pub many : n ≡ length list

listed_of : (h : Held) {n : ℕ} → Ok n ≡ count_of h → Listed h n
listed_of (members ms) e = record { list = ms; held = refl; many = cc }
listed_of (refused k) e = absurd (let z : ◌≡◌ {A = ℕ} 0 1 = cc in omega arith)

refused_of : (h : Held) {k : Refusal} (i : ℕ) → Err k ≡ count_of h → Err k ≡ nth_of h i
refused_of (members ms) i e = absurd (let z : ◌≡◌ {A = ℕ} 0 1 = cc in omega arith)
refused_of (refused k) i e = cc

-- what a list says of the header in front of it
record Headed (o : Result ℕ Refusal) (on : ℕ → Held) (ms : List FatArch) : Type 0 where
  pub count : ℕ
  pub header : o ≡ Ok count
  pub held : members ms ≡ on count

headed_of : (o : Result ℕ Refusal) (on : ℕ → Held) {ms : List FatArch} → members ms ≡ on_ok o refused on → Headed o on ms
headed_of (Ok n) on e = record { count = n; header = refl; held = e }
headed_of (Err k) on e = absurd (let z : ◌≡◌ {A = ℕ} 0 1 = cc in omega arith)

-- The doors.
module _ (s : List ℕ) where
  pub opened_refused : {k : Refusal} → Err k ≡ header_in s → Err k ≡ open_of s
  unfolding open_of held_in
  opened_refused e = rw (← e)

  pub opened_members : {n : ℕ} {x : Result ℕ Refusal} → Ok n ≡ header_in s → x ≡ counted n (members_at fat_arch n s 8) → x ≡ open_of s
  unfolding open_of held_in
  opened_members {n} e f = rw (← e, count_members fat_arch s n 8) f

  -- a count that is answered is the header's
  headed_count : {c n : ℕ} {ms : List FatArch} → members ms ≡ members_at fat_arch c s 8 → n ≡ length ms → n ≡ c
  headed_count {c} {n} {ms} e l = l ∙ same_count (rw (← e) at (count_members fat_arch s c 8))

  pub opened_header : {n : ℕ} → Ok n ≡ open_of s → Ok n ≡ header_in s
  unfolding open_of held_in
  opened_header {n} e =
      let l = listed_of (held_in s) e in
      let r = headed_of (header_in s) (λ c. members_at fat_arch c s 8) l.held in
      ap Ok (headed_count r.held l.many) ∙ sym r.header

  -- the first member that is refused is the answer; if there is none, it is the count
  module _ {n : ℕ} (e : Ok n ≡ header_in s) (i : ℕ) (g : (j : ℕ) → j < i → There (read_of fat_arch s (8 + j * 20))) where
    pub opened_stop : {k : Refusal} → i < n → Err k ≡ read_of fat_arch s (8 + i * 20) → Err k ≡ open_of s
    opened_stop h r = opened_members e
        (sym (members_after fat_arch s i n 8 n (omega arith) g ∙ members_stop fat_arch s (n - i) (8 + i * 20) n (omega arith) r))

    pub opened_all : i ≡ n → Ok n ≡ open_of s
    opened_all h = opened_members e
        (sym (members_after fat_arch s i n 8 n (omega arith) g ∙ members_none fat_arch s (n - i) (8 + i * 20) n (omega arith)))

  pub listed_in : {n : ℕ} → Ok n ≡ open_of s → Listed (held_in s) n
  unfolding open_of
  listed_in e = listed_of (held_in s) e

  pub found_refused : {k : Refusal} (i : ℕ) → Err k ≡ open_of s → Err k ≡ member_at_of s i
  unfolding open_of member_at_of
  found_refused i e = refused_of (held_in s) i e

  listed_at : {ms : List FatArch} (i : ℕ) → members ms ≡ held_in s → i < length ms → read_of fat_arch s (8 + i * 20) ≡ nth ms i
  unfolding held_in
  listed_at i e h =
      let r = headed_of (header_in s) (λ n. members_at fat_arch n s 8) e in
      nth_go fat_arch s r.count 8 i r.held h

  found_of_lem : {ms : List FatArch} (i : ℕ) → members ms ≡ held_in s → nth ms i ≡ member_at_of s i
  unfolding member_at_of
  found_of_lem i e = rw (← e)

  pub found_at_lem : {n : ℕ} (i at : ℕ) {x : Result FatArch Refusal} → Ok n ≡ open_of s → i < n → at ≡ 8 + 20 * i → x ≡ read_of fat_arch s at
      → x ≡ member_at_of s i
  found_at_lem i at e h p f =
      let l = listed_in e in
      let q : at ≡ 8 + i * 20 = omega arith in
      f ∙ (rw q (listed_at i l.held (rw l.many at h)) ∙ found_of_lem i l.held)

  pub found_there : {n : ℕ} (i : ℕ) → Ok n ≡ open_of s → i < n → There (read_of fat_arch s (8 + i * 20))
  found_there i e h =
      let l = listed_in e in
      let k : i < length l.list = rw l.many at h in
      rw (listed_at i l.held k) (nth_there l.list i k)

  pub found_past : {n : ℕ} (i : ℕ) {q : Refusal} → Ok n ≡ open_of s → n ≤ i → q ≡ refuse_of not_found
      → Err q ≡ member_at_of s i
  found_past i e h f =
      let l = listed_in e in
      rw f (nth_past l.list i (rw l.many at h) ∙ found_of_lem i l.held)

nth_inside : (s : List ℕ) (ms : List FatArch) (i : ℕ) → (i < length ms → Inside s (nth ms i)) → Inside s (nth ms i)
nth_inside s ms i h = ⊎_elim (λ l. rw (← nth_past ms i l) tt) h (le_or_lt (length ms) i)

held_inside : (s : List ℕ) (h : Held) (i : ℕ) → ((ms : List FatArch) → members ms ≡ h → i < length ms → Inside s (nth ms i))
    → Inside s (nth_of h i)
held_inside s (members ms) i f = nth_inside s ms i (f ms refl)
held_inside s (refused k) i f = tt

pub found_inside : (s : List ℕ) (i : ℕ) → Inside s (member_at_of s i)
unfolding member_at_of
found_inside s i = held_inside s (held_in s) i (λ ms e l. rw (← listed_at s i e l) (member_inside s (8 + i * 20)))

pub inside_is : (s : List ℕ) {f : Result FatArch Refusal} {m : FatArch} → f ≡ Ok m → Inside s f → m.offset + m.size ≤ length s
inside_is s is h = rw is at h

-- The part that an answer names, of the file at `p`.
module _ (s : List ℕ) (p : ℕ × ℕ) {f : Result FatArch Refusal} where
  pub part_is : {m : FatArch} → f ≡ Ok m
      → (take (m.offset + m.size - m.offset) (drop m.offset s) ≡ bytes_at_of s f) × ((p.0, m.offset + p.1) ≡ start_of p f)
  part_is {m} is =
      let e : m.offset + m.size - m.offset ≡ m.size = omega arith in
      let d : m.offset + p.1 ≡ p.1 + m.offset = omega arith in
      rw (is, e, d) (refl, refl)

  pub part_none : {k : Refusal} → f ≡ Err k → ([] ≡ bytes_at_of s f) × ((p.0, 0 + p.1) ≡ start_of p f)
  part_none is = let d : 0 + p.1 ≡ p.1 = omega arith in rw (is, d) (refl, refl)
