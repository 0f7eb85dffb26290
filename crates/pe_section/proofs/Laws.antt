-- The laws of a row and of the row at an index: what proofs of readers cite.
-- Assumes nothing.
use Rattle.std.specs.Prelude.{Result, Ok, Err}
use mathlib.Core.Path.{◌≡◌, sym, ap, ◌∙◌}
use mathlib.Core.List.{List, [], ◌∷◌}
use mathlib.Core.Bool.{false}
use Prim.Native.Nat.{ℕ, ◌+◌, ◌*◌, ◌^◌, ◌≤◌, ◌<◌}
use native.Mathlib.Omega.{arith}
use lib.ListN.{length}
use borrow.Author.Tests.{le-leb, lt-leb, lt-ltb, le-ltb}
use Rattle.answer.specs.Answer.{cut_of, beyond_of, refuse_of, limit, not_found}
use Rattle.answer.specs.Test.{file_limit}
use Rattle.answer.specs.declared.Refusal.{Refusal}
use Rattle.answer.proofs.Laws.{must_on, must_off, cut_beyond}
use Rattle.layout.specs.Layout.{numbers_at}
use Rattle.layout.proofs.Laws.{read_short, read_full}
use Rattle.layout.proofs.Theorems.{Reads, whole, cut as missing, reads}
use Rattle.pe_section.specs.Section.{section_table_of, row_of, read_of, section_limit, get_row_of}
use Rattle.pe_section.specs.declared.SectionTable.{SectionTable}

pub never : {h : SectionTable} {k : Refusal} → Ok h ≡ Err k → ⊥
never e = let z : ◌≡◌ {A = ℕ} 0 1 = cc in omega arith

same_row : {h g : SectionTable} → ◌≡◌ {A = Result SectionTable Refusal} (Ok h) (Ok g) → h ≡ g
same_row e = cc

-- what a row that was read says
pub record Whole (s : List ℕ) (at : ℕ) (h : SectionTable) : Type 0 where
  pub inside : at + 40 ≤ length s
  pub value : h ≡ row_of (numbers_at false section_table_of s at)

abbrev told : List ℕ → ℕ → Result SectionTable Refusal → Type 0
told s at r = Reads (Ok (row_of (numbers_at false section_table_of s at))) (λ (end : ℕ). Err (cut_of end)) section_table_of s at r

told_of : (s : List ℕ) (at : ℕ) {r : Result SectionTable Refusal} → r ≡ read_of s at → told s at r
unfolding read_of
told_of s at e = rw e (reads (λ ns. Ok (row_of ns)) (λ end. Err (cut_of end)) false section_table_of s at)

whole_of : (s : List ℕ) (at : ℕ) {r : Result SectionTable Refusal} {h : SectionTable} → r ≡ Ok h → told s at r → Whole s at h
whole_of s at e (whole r f) = record { inside = r (omega arith); value = same_row (sym e ∙ f) }
whole_of s at e (missing n a b f) = absurd (never (sym e ∙ f))

module _ (s : List ℕ) (at : ℕ) {r : Result SectionTable Refusal} (e : r ≡ read_of s at) where
  pub row_whole : {h : SectionTable} → r ≡ Ok h → Whole s at h
  row_whole f = whole_of s at f (told_of s at e)

-- a row past 64 bits, which is in no file
pub row_past : (s : List ℕ) (at : ℕ) {k : Refusal} → length s < at + 8 → 2 ^ 64 ≤ at + 8 → k ≡ beyond_of → Err k ≡ read_of s at
unfolding read_of
row_past s at h l e =
    ap Err (e ∙ cut_beyond (at + 8) l)
    ∙ read_short false s (λ ns. Ok (row_of ns)) (λ end. Err (cut_of end)) 8 (4 ∷ 4 ∷ 4 ∷ 4 ∷ 4 ∷ 4 ∷ 2 ∷ 2 ∷ 4 ∷ []) at h

-- the row at an index, a law for each outcome
module _ (s : List ℕ) (table count index : ℕ) where
  pub section_long : {k : Refusal} → file_limit < length s → k ≡ refuse_of limit → Err k ≡ get_row_of s table count index
  unfolding get_row_of
  section_long l e = must_off Err _ _ _ (lt-leb _ _ l) e

  module _ (l : length s ≤ file_limit) where
    pub section_many : {k : Refusal} → section_limit < count → k ≡ refuse_of limit → Err k ≡ get_row_of s table count index
    unfolding get_row_of
    section_many m e = must_on Err _ _ _ (le-leb _ _ l) (must_off Err _ _ _ (lt-leb _ _ m) e)

    module _ (m : count ≤ section_limit) where
      pub section_none : {k : Refusal} → count ≤ index → k ≡ refuse_of not_found → Err k ≡ get_row_of s table count index
      unfolding get_row_of
      section_none i e =
          must_on Err _ _ _ (le-leb _ _ l) (must_on Err _ _ _ (le-leb _ _ m) (must_off Err _ _ _ (le-ltb _ _ i) e))

      pub section_row : {x : Result SectionTable Refusal} → index < count → x ≡ read_of s (table + 40 * index) → x ≡ get_row_of s table count index
      unfolding get_row_of
      section_row i e =
          must_on Err _ _ _ (le-leb _ _ l) (must_on Err _ _ _ (le-leb _ _ m) (must_on Err _ _ _ (lt-ltb _ _ i) e))

-- a row whose bytes are all there
pub row_full : (s : List ℕ) (at : ℕ) → at + 40 ≤ length s → Ok (row_of (numbers_at false section_table_of s at)) ≡ read_of s at
unfolding read_of
row_full s at h = read_full false s (λ ns. Ok (row_of ns)) (λ end. Err (cut_of end)) section_table_of at h
