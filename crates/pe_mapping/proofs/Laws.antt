-- The laws of rounding, of powers of two and of the search over rows: what the proofs of this crate cite.
-- Assumes nothing.
use Rattle.std.specs.Prelude.{Result, Ok, Err, ℕ}
use Rattle.answer.specs.Answer.{on_ok, refuse_of, limit, no_section}
use mathlib.Core.Path.{◌≡◌, refl, sym, ap, ◌∙◌}
use mathlib.Core.List.{List}
use mathlib.Core.Bool.{Bool, true, false}
use Prim.Native.Nat.{ℕ, zero, suc, ◌+◌, ◌-◌, ◌*◌, ◌/◌, ◌%◌, ◌^◌, ◌≤◌, ◌<◌, min}
use native.Mathlib.Nat.{not-suc-le-zero, div-add-mod', mod-lt, pow-succ', one-le-pow, min-le_left, min-le_right}
use native.Mathlib.Omega.{arith}
use lib.ListN.{length}
use Rattle.std.specs.Int.{is_power_of_two, next_multiple_of}
use Rattle.std.proofs.lemmas.Nat.{ones_cat, zero_from_ones}
use lib.Dec.{leb, ltb, eqb}
use borrow.Author.Tests.{le-leb, lt-leb, lt-ltb, le-ltb, eq-eqb, ne_eqb, eqb-true, leb-true, ltb-true}
use mathlib.Core.Logic.{◌⊎◌, inl, inr, ⊎_elim}
use lib.Arith.{digits_div}
use native.Mathlib.Nat.{mod_self, mod-eq_of_lt}
use lib.Count.{ones as count_ones, ones_in}
use Rattle.fields.proofs.Laws.{le_or_lt}
use Rattle.answer.specs.Test.{pick, file_limit}
use Rattle.answer.specs.declared.Refusal.{Refusal}
use Rattle.answer.proofs.Laws.{must_on, must_off}
use Rattle.pe_section.specs.Section.{read_of, section_limit}
use Rattle.pe_section.specs.declared.SectionTable.{SectionTable}
use Rattle.pe_mapping.specs.Mapping.{up, power_below, power_of_two, readable_in_file, readable_size, holds, offset_in, first_of, find_offset_of}
use Rattle.pe_mapping.specs.declared.Sections.{Sections}

-- Rounding up reaches the number, and passes it by less than the multiple.
module _ (m n : ℕ) (p : 0 < m) where
  parts : (n + m - 1) / m * m + (n + m - 1) % m ≡ n + m - 1
  parts = div-add-mod' (n + m - 1) m

  pub up_least : n ≤ up m n
  unfolding up
  up_least = omega (arith, parts, mod-lt (n + m - 1) p)

  pub up_most : up m n < n + m
  unfolding up
  up_most = omega (arith, parts)

  -- as the library counts it
  next_by : (q : ℕ) → (n + m - 1) / m ≡ q → n + (m - n % m) % m ≡ q * m → next_multiple_of n m ≡ up m n
  unfolding up
  next_by q e f = f ∙ ap (λ k. k * m) (sym e)

  pub up_next : next_multiple_of n m ≡ up m n
  up_next =
      let d : n / m * m + n % m ≡ n = div-add-mod' n m in
      let l : n % m < m = mod-lt n p in
      ⊎_elim
      (λ (h : 1 ≤ n % m).
      let r : n % m - 1 < m = omega arith in
      let a : n + m - 1 ≡ (n / m + 1) * m + (n % m - 1) = omega arith in
      let b : m - n % m < m = omega arith in
      next_by (n / m + 1) (rw a (digits_div (n / m + 1) r)) (rw (mod-eq_of_lt b) (omega arith)))
      (λ (h : n % m < 1).
      let r : m - 1 < m = omega arith in
      let z : m - n % m ≡ m = omega arith in
      let a : n + m - 1 ≡ n / m * m + (m - 1) = omega arith in
      next_by (n / m) (rw a (digits_div (n / m) r)) (rw (z, mod_self m) (omega arith)))
      (le_or_lt 1 (n % m))

-- A power of two has one bit.
high : (k n : ℕ) → 2 ^ k ≤ n → power_below k n ≡ false
unfolding power_below
high zero n h = refl
high (suc k) n h =
    let e : 2 ^ suc k ≡ 2 * 2 ^ k = pow-succ' 2 k in
    let p : 1 ≤ 2 ^ k = one-le-pow k 2 (omega arith) in
    rw (ne_eqb n (2 ^ k) (λ z. omega arith)) (high k n (omega arith))

lt_or_le : (a b : ℕ) → (a < b) ⊎ (b ≤ a)
lt_or_le a b = ⊎_elim inr inl (le_or_lt b a)

ones_none : count_ones 0 ≡ 0
unfolding count_ones ones_in
ones_none = refl

ones_single : count_ones 1 ≡ 1
unfolding count_ones ones_in
ones_single = refl

one_bit : (k n : ℕ) → n < 2 ^ suc k → 2 ^ k < n → count_ones n ≡ 1 → ⊥
one_bit k n h l e =
    let q : 2 ^ suc k ≡ 2 * 2 ^ k = pow-succ' 2 k in
    let r : n - 2 ^ k < 2 ^ k = omega arith in
    let a : n ≡ 1 * 2 ^ k + (n - 2 ^ k) = omega arith in
    let o : count_ones n ≡ count_ones 1 + count_ones (n - 2 ^ k) = ap count_ones a ∙ ones_cat k 1 (n - 2 ^ k) r in
    let z : n - 2 ^ k ≡ 0 = zero_from_ones (n - 2 ^ k) (omega (arith, ones_single)) in
    omega arith

one_is : (k : ℕ) → count_ones (2 ^ k) ≡ 1
one_is k =
    let p : 0 < 2 ^ k = one-le-pow k 2 (omega arith) in
    let a : 2 ^ k ≡ 1 * 2 ^ k + 0 = omega arith in
    ap count_ones a ∙ ones_cat k 1 0 p ∙ omega (arith, ones_none, ones_single)

pub power_ones : (k n : ℕ) → n < 2 ^ k → is_power_of_two n ≡ power_below k n
unfolding power_below
power_ones zero n h = let e : n ≡ 0 = omega arith in rw (e, ones_none) refl
power_ones (suc k) n h =
    ⊎_elim
    (λ (l : n < 2 ^ k). rw (ne_eqb n (2 ^ k) (λ z. omega arith)) (power_ones k n l))
    (λ (g : 2 ^ k ≤ n).
    ⊎_elim
    (λ (l : 2 ^ k < n).
    rw (ne_eqb n (2 ^ k) (λ z. omega arith), high k n g) (ne_eqb (count_ones n) 1 (one_bit k n h l)))
    (λ (l : n ≤ 2 ^ k). let e : n ≡ 2 ^ k = omega arith in rw (eq-eqb n (2 ^ k) e) (eq-eqb (count_ones n) 1 (ap count_ones e ∙ one_is k)))
    (lt_or_le (2 ^ k) n))
    (lt_or_le n (2 ^ k))

positive_by : (n k : ℕ) (t : Bool) → eqb n (2 ^ k) ≡ t → (power_below k n ≡ true → 0 < n) → pick t true (power_below k n) ≡ true → 0 < n
positive_by n k true e f g = omega (arith, eqb-true n (2 ^ k) e, one-le-pow k 2 (omega arith))
positive_by n k false e f g = f g

-- a power of two is not zero
pub power_positive : (n k : ℕ) → power_below k n ≡ true → 0 < n
unfolding power_below
power_positive n zero e = absurd (let z : ◌≡◌ {A = ℕ} 0 1 = cc in omega arith)
power_positive n (suc k) e = positive_by n k (eqb n (2 ^ k)) refl (power_positive n k) e

-- The readable size of a section that the file has nothing of, that has no virtual size, and of another.
module _ (alignment : ℕ) (h : SectionTable) where
  pub readable_none : h.size_of_raw_data ≡ 0 → 0 ≡ readable_size alignment h
  unfolding readable_size
  readable_none e = rw (eq-eqb h.size_of_raw_data 0 e)

  module _ (r : h.size_of_raw_data ≡ 0 → ⊥) {x : ℕ} where
    pub readable_in_file_lem : h.virtual_size ≡ 0 → x ≡ readable_in_file alignment h → x ≡ readable_size alignment h
    unfolding readable_size
    readable_in_file_lem e f = rw (ne_eqb h.size_of_raw_data 0 r, eq-eqb h.virtual_size 0 e) f

    pub readable_least : (h.virtual_size ≡ 0 → ⊥) → x ≡ min (readable_in_file alignment h) (up 4096 h.virtual_size)
        → x ≡ readable_size alignment h
    unfolding readable_size
    readable_least e f = rw (ne_eqb h.size_of_raw_data 0 r, ne_eqb h.virtual_size 0 e) f

-- Whether a section holds an address: it lies below, past or in it.
module _ (alignment : ℕ) (h : SectionTable) (address : ℕ) where
  pub holds_below : address < h.virtual_address → false ≡ holds alignment h address
  unfolding holds
  holds_below l = rw (lt-leb h.virtual_address address l)

  -- where it does not lie below, its distance decides
  pub holds_by : {size : ℕ} → h.virtual_address ≤ address → size ≡ readable_size alignment h
      → ltb (address - h.virtual_address) size ≡ holds alignment h address
  unfolding holds
  holds_by {size} l e =
      ⊎_elim
      (λ (p : size ≤ address - h.virtual_address).
      let q : h.virtual_address + readable_size alignment h ≤ address = omega arith in
      rw (le-leb h.virtual_address address l, le-ltb (address - h.virtual_address) size p, le-ltb address (h.virtual_address + readable_size alignment h) q)
      refl)
      (λ (p : address - h.virtual_address < size).
      let q : address < h.virtual_address + readable_size alignment h = omega arith in
      rw (le-leb h.virtual_address address l, lt-ltb (address - h.virtual_address) size p, lt-ltb address (h.virtual_address + readable_size alignment h) q)
      refl)
      (le_or_lt size (address - h.virtual_address))

in_file_most : (alignment : ℕ) (h : SectionTable) → readable_in_file alignment h ≤ up 4096 h.size_of_raw_data
in_file_most alignment h = min-le_right _ _

readable_by : (alignment : ℕ) (h : SectionTable) (b c : Bool)
    → pick b 0 (pick c (readable_in_file alignment h) (min (readable_in_file alignment h) (up 4096 h.virtual_size))) ≤ up 4096 h.size_of_raw_data
readable_by alignment h true c = omega arith
readable_by alignment h false true = in_file_most alignment h
readable_by alignment h false false = omega
    (arith, in_file_most alignment h, min-le_left (readable_in_file alignment h) (up 4096 h.virtual_size))

-- no more of a section can be read than its raw size and a page less one byte
pub readable_most : (alignment : ℕ) (h : SectionTable) → readable_size alignment h < h.size_of_raw_data + 4096
unfolding readable_size
readable_most alignment h =
    omega (
      arith,
      readable_by alignment h (eqb h.size_of_raw_data 0) (eqb h.virtual_size 0),
      up_most 4096 h.size_of_raw_data
          (omega arith),
    )

-- where a held address lies
pub record Held (alignment : ℕ) (h : SectionTable) (address : ℕ) : Type 0 where
  pub from : h.virtual_address ≤ address
  pub below : address < h.virtual_address + readable_size alignment h

held_by : (alignment : ℕ) (h : SectionTable) (address : ℕ) (b c : Bool) → leb h.virtual_address address ≡ b
    → ltb address (h.virtual_address + readable_size alignment h) ≡ c → pick b c false ≡ true → Held alignment h address
held_by alignment h address true true e f g = record { from = leb-true _ _ e; below = ltb-true _ _ f }
held_by alignment h address true false e f g = absurd (let z : ◌≡◌ {A = ℕ} 0 1 = cc in omega arith)
held_by alignment h address false c e f g = absurd (let z : ◌≡◌ {A = ℕ} 0 1 = cc in omega arith)

pub holds_told : (alignment : ℕ) (h : SectionTable) (address : ℕ) → holds alignment h address ≡ true → Held alignment h address
unfolding holds
holds_told alignment h address e = held_by alignment h address (leb h.virtual_address address)
    (ltb address (h.virtual_address + readable_size alignment h)) refl refl e

-- what a turn of the search does with what reading its row answers, where `n` rows follow it
abbrev pub turn_of : Result SectionTable Refusal → ℕ → List ℕ → ℕ → ℕ → ℕ → Result ℕ Refusal
turn_of r n s at alignment address =
    on_ok r Err
    (λ h. pick (holds alignment h address) (Ok (offset_in h address)) (first_of n s (at + 40) alignment address))

turn_of_lem : (n : ℕ) (s : List ℕ) (at alignment address : ℕ) → 0 < n
    → first_of n s at alignment address ≡ turn_of (read_of s at) (n - 1) s at alignment address
unfolding first_of
turn_of_lem zero s at alignment address p = absurd (not-suc-le-zero p)
turn_of_lem (suc n) s at alignment address p = let q : suc n - 1 ≡ n = omega arith in rw q

-- The search over rows, a law for each outcome of a turn.
module _ (n : ℕ) (s : List ℕ) (at alignment address : ℕ) where
  pub first_none : {k : Refusal} → n ≤ 0 → k ≡ refuse_of no_section → Err k ≡ first_of n s at alignment address
  unfolding first_of
  first_none l f = let e : n ≡ 0 = omega arith in rw (e, f)

  module _ (p : 0 < n) {r : Result SectionTable Refusal} (e : r ≡ read_of s at) where
    turn : first_of n s at alignment address ≡ turn_of (read_of s at) (n - 1) s at alignment address
    turn = turn_of_lem n s at alignment address p

    pub first_cut : {k : Refusal} → r ≡ Err k → Err k ≡ first_of n s at alignment address
    first_cut f = rw (turn, ← e, f)

    pub first_holds : {h : SectionTable} → r ≡ Ok h → true ≡ holds alignment h address
        → Ok (offset_in h address) ≡ first_of n s at alignment address
    first_holds f t = rw (turn, ← e, f, ← t)

    pub first_on : {h : SectionTable} → r ≡ Ok h → false ≡ holds alignment h address
        → first_of n s at alignment address ≡ first_of (n - 1) s (at + 40) alignment address
    first_on f t = rw (turn, ← e, f, ← t)

-- The offset of an address, a law for each outcome of the checks before the search.
module _ (s : List ℕ) (x : Sections) (address : ℕ) where
  pub offset_long : {k : Refusal} → file_limit < length s → k ≡ refuse_of limit → Err k ≡ find_offset_of s x address
  unfolding find_offset_of
  offset_long l e = must_off Err _ _ _ (lt-leb _ _ l) e

  module _ (l : length s ≤ file_limit) where
    pub offset_many : {k : Refusal} → section_limit < x.count → k ≡ refuse_of limit → Err k ≡ find_offset_of s x address
    unfolding find_offset_of
    offset_many m e = must_on Err _ _ _ (le-leb _ _ l) (must_off Err _ _ _ (lt-leb _ _ m) e)

    module _ (m : x.count ≤ section_limit) where
      pub offset_unaligned : {k : Refusal} → power_of_two x.alignment ≡ false → k ≡ refuse_of no_section
          → Err k ≡ find_offset_of s x address
      unfolding find_offset_of
      offset_unaligned p e = must_on Err _ _ _ (le-leb _ _ l) (must_on Err _ _ _ (le-leb _ _ m) (must_off Err _ _ _ p e))

      pub offset_first : {r : Result ℕ Refusal} → power_of_two x.alignment ≡ true
          → r ≡ first_of x.count s x.table x.alignment address → r ≡ find_offset_of s x address
      unfolding find_offset_of
      offset_first p e = must_on Err _ _ _ (le-leb _ _ l) (must_on Err _ _ _ (le-leb _ _ m) (must_on Err _ _ _ p e))
