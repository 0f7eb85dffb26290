-- The search over rows: which row is the first that holds an address, and what that tells of the search's answer.
-- Assumes nothing.
use Rattle.std.specs.Prelude.{Result, Ok, Err, ℕ}
use mathlib.Core.Path.{◌≡◌, refl, sym, ◌∙◌}
use mathlib.Core.List.{List}
use mathlib.Core.Bool.{Bool, true, false}
use Prim.Native.Nat.{ℕ, zero, suc, ◌+◌, ◌-◌, ◌*◌, ◌≤◌, ◌<◌}
use native.Mathlib.Nat.{not-suc-le-zero, le_of_suc-le-suc}
use native.Mathlib.Omega.{arith}
use lib.ListN.{length}
use Rattle.answer.specs.Answer.{refuse_of, no_section}
use Rattle.answer.specs.Test.{pick, must, file_limit}
use Rattle.answer.specs.declared.Reason.{Reason}
use Rattle.answer.specs.declared.Refusal.{Refusal}
use Rattle.pe_section.specs.Section.{read_of, section_limit}
use Rattle.pe_section.specs.declared.SectionTable.{SectionTable}
use Rattle.pe_mapping.specs.Mapping.{power_of_two, holds, offset_in, first_of, find_offset_of}
use Rattle.pe_mapping.specs.declared.Sections.{Sections}
use Rattle.pe_mapping.proofs.Laws.{turn_of, first_holds, first_on, first_none, offset_unaligned, offset_first}

-- the row at `at` is whole and does not hold the address
pub record Passed (s : List ℕ) (at alignment address : ℕ) : Type 0 where
  pub row : SectionTable
  pub there : Ok row ≡ read_of s at
  pub other : holds alignment row address ≡ false

-- of the `count` rows from `table`, the one at `index` is the first that holds the address
pub record Wins (s : List ℕ) (table count alignment address index : ℕ) (row : SectionTable) : Type 0 where
  pub inside : index < count
  pub there : Ok row ≡ read_of s (table + 40 * index)
  pub held : holds alignment row address ≡ true
  pub before : (j : ℕ) → j < index → Passed s (table + 40 * j) alignment address

-- an offset, and the row that gave it
pub record Mapping (s : List ℕ) (table count alignment address offset : ℕ) : Type 0 where
  pub index : ℕ
  pub row : SectionTable
  pub wins : Wins s table count alignment address index row
  pub value : offset ≡ offset_in row address

never : {o : ℕ} {k : Refusal} → Ok o ≡ Err k → ⊥
never e = let z : ◌≡◌ {A = ℕ} 0 1 = cc in omega arith

same_offset : {o p : ℕ} → ◌≡◌ {A = Result ℕ Refusal} (Ok o) (Ok p) → o ≡ p
same_offset e = cc

moved : (s : List ℕ) {row : SectionTable} (i j : ℕ) → i ≡ j → Ok row ≡ read_of s i → Ok row ≡ read_of s j
moved s i j e f = rw e at f

passed_moved : {s : List ℕ} {alignment address : ℕ} (i j : ℕ) → i ≡ j → Passed s i alignment address → Passed s j alignment address
passed_moved i j e p = rw e at p

-- a row that was passed, before those of a table that starts after it
passed_before : {s : List ℕ} (at alignment address i : ℕ) → Passed s at alignment address
    → ((j : ℕ) → j < i → Passed s (at + 40 + 40 * j) alignment address) → (j : ℕ) → j < suc i → Passed s (at + 40 * j) alignment address
passed_before at alignment address i p f zero h = passed_moved at (at + 40 * 0) (omega arith) p
passed_before at alignment address i p f (suc j) h = passed_moved (at + 40 + 40 * j) (at + 40 * suc j) (omega arith)
    (f j (le_of_suc-le-suc h))

next_row : (s : List ℕ) (n at alignment address o : ℕ) → Passed s at alignment address → Mapping s (at + 40) n alignment address o
    → Mapping s at (suc n) alignment address o
next_row s n at alignment address o p m =
    let w = m.wins in
    record {
      index = suc m.index;
      row = m.row;
      wins =
          record {
            inside = omega (arith, w.inside);
            there = moved s (at + 40 + 40 * m.index) (at + 40 * suc m.index) (omega arith) w.there;
            held = w.held;
            before = passed_before at alignment address m.index p w.before;
          };
      value = m.value;
    }

this_row : (s : List ℕ) (n at alignment address o : ℕ) (h : SectionTable) → Ok h ≡ read_of s at → holds alignment h address ≡ true
    → ◌≡◌ {A = Result ℕ Refusal} (Ok o) (Ok (offset_in h address)) → Mapping s at (suc n) alignment address o
this_row s n at alignment address o h t k e =
    record {
      index = 0;
      row = h;
      wins =
          record {
            inside = omega arith;
            there = moved s at (at + 40 * 0) (omega arith) t;
            held = k;
            before = λ j l. absurd (not-suc-le-zero l);
          };
      value = same_offset e;
    }

by_holds : (n : ℕ) (s : List ℕ) (at alignment address o : ℕ) (h : SectionTable) (b : Bool) → Ok h ≡ read_of s at
    → holds alignment h address ≡ b → (Ok o ≡ first_of n s (at + 40) alignment address → Mapping s (at + 40) n alignment address o)
    → Ok o ≡ pick b (Ok (offset_in h address)) (first_of n s (at + 40) alignment address) → Mapping s at (suc n) alignment address o
by_holds n s at alignment address o h true t k f e = this_row s n at alignment address o h t k e
by_holds n s at alignment address o h false t k f e = next_row s n at alignment address o (record { row = h; there = t; other = k }) (f e)

by_row : (n : ℕ) (s : List ℕ) (at alignment address o : ℕ) (r : Result SectionTable Refusal) → r ≡ read_of s at
    → (Ok o ≡ first_of n s (at + 40) alignment address → Mapping s (at + 40) n alignment address o)
    → Ok o ≡ turn_of r n s at alignment address → Mapping s at (suc n) alignment address o
by_row n s at alignment address o (Ok h) t f e = by_holds n s at alignment address o h (holds alignment h address) t refl f e
by_row n s at alignment address o (Err k) t f e = absurd (never e)

pub mapping_of : (n : ℕ) (s : List ℕ) (at alignment address o : ℕ) → Ok o ≡ first_of n s at alignment address
    → Mapping s at n alignment address o
unfolding first_of
mapping_of zero s at alignment address o e = absurd (never e)
mapping_of (suc n) s at alignment address o e = by_row n s at alignment address o (read_of s at) refl
    (mapping_of n s (at + 40) alignment address o) e

pub must_told : {o : ℕ} (t : Bool) (k : Reason) (on : Result ℕ Refusal) → Ok o ≡ must Err t k on → Ok o ≡ on
unfolding must
must_told true k on e = e
must_told false k on e = absurd (never e)

pass_on : (n : ℕ) (s : List ℕ) (at alignment address : ℕ) → Passed s at alignment address
    → first_of (suc n) s at alignment address ≡ first_of n s (at + 40) alignment address
pass_on n s at alignment address p =
    let q : suc n - 1 ≡ n = omega arith in
    rw q at (first_on (suc n) s at alignment address (omega arith) p.there refl (sym p.other))

pub first_of_lem : (i n : ℕ) (s : List ℕ) (at alignment address : ℕ) (h : SectionTable) → Wins s at n alignment address i h
    → Ok (offset_in h address) ≡ first_of n s at alignment address
first_of_lem zero n s at alignment address h w =
    first_holds n s at alignment address (omega (arith, w.inside)) (moved s (at + 40 * 0) at (omega arith) w.there) refl (sym w.held)
first_of_lem (suc i) zero s at alignment address h w = absurd (not-suc-le-zero w.inside)
first_of_lem (suc i) (suc n) s at alignment address h w =
    let p = passed_moved (at + 40 * 0) at (omega arith) (w.before 0 (omega arith)) in
    first_of_lem
    i
    n
    s
    (at + 40)
    alignment
    address
    h
    (record {
      inside = le_of_suc-le-suc w.inside;
      there = moved s (at + 40 * suc i) (at + 40 + 40 * i) (omega arith) w.there;
      held = w.held;
      before = λ j l. passed_moved (at + 40 * suc j) (at + 40 + 40 * j) (omega arith) (w.before (suc j) (omega arith));
    })
    ∙ sym (pass_on n s at alignment address p)

pub none_of : (n : ℕ) (s : List ℕ) (at alignment address : ℕ) → ((j : ℕ) → j < n → Passed s (at + 40 * j) alignment address)
    → Err (refuse_of no_section) ≡ first_of n s at alignment address
none_of zero s at alignment address f = first_none zero s at alignment address (omega arith) refl
none_of (suc n) s at alignment address f =
    let p = passed_moved (at + 40 * 0) at (omega arith) (f 0 (omega arith)) in
    none_of n s (at + 40) alignment address
    (λ j l. passed_moved (at + 40 * suc j) (at + 40 + 40 * j) (omega arith) (f (suc j) (omega arith)))
    ∙ sym (pass_on n s at alignment address p)

pub by_alignment : (s : List ℕ) (x : Sections) (address : ℕ) (b : Bool) → power_of_two x.alignment ≡ b → length s ≤ file_limit
    → x.count ≤ section_limit → Err (refuse_of no_section) ≡ first_of x.count s x.table x.alignment address
    → Err (refuse_of no_section) ≡ find_offset_of s x address
by_alignment s x address true p l m e = offset_first s x address l m p e
by_alignment s x address false p l m e = offset_unaligned s x address l m p refl
