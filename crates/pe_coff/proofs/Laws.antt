-- The laws of the COFF header: what proofs of readers cite.
-- Assumes nothing.
use Rattle.std.specs.Prelude.{Result, Ok, Err}
use mathlib.Core.Path.{◌≡◌, refl, sym, ap, ◌∙◌}
use mathlib.Core.List.{List, ◌++◌}
use mathlib.Core.Bool.{false}
use mathlib.Core.Logic.{◌⊎◌, inl, inr}
use Prim.Native.Nat.{ℕ, ◌+◌, ◌≤◌, ◌<◌}
use native.Mathlib.Omega.{arith}
use lib.ListN.{length}
use borrow.Author.Tests.{le-leb, lt-leb}
use Rattle.answer.specs.Answer.{cut_of, refuse_of, limit}
use Rattle.answer.specs.declared.Refusal.{Refusal}
use Rattle.answer.proofs.Laws.{must_on, must_off}
use Rattle.fields.specs.Number.{number_at}
use Rattle.fields.proofs.Laws.{le_or_lt}
use Rattle.layout.specs.Layout.{widths, read_by, numbers_at}
use Rattle.layout.proofs.Laws.{full_is}
use Rattle.layout.proofs.Theorems.{Reads, whole, cut as missing, reads}
use Rattle.pe_section.specs.Section.{section_limit}
use Rattle.pe_coff.specs.Coff.{coff_header, header_of, start, rest, read_of}
use Rattle.pe_coff.specs.declared.CoffHeader.{CoffHeader}

-- the widths of the two parts in which the header is read
abbrev pub early : List ℕ
early = widths start

abbrev pub late : List ℕ
late = widths rest

-- The fields up to the section count were read.
module _ (s : List ℕ) (at : ℕ) {n : ℕ} (h : at + 4 ≤ length s) (e : n ≡ number_at false 2 s (at + 2)) where
  -- the count is above the limit
  pub coff_many : {k : Refusal} → section_limit < n → k ≡ refuse_of limit → Err k ≡ read_of s at
  unfolding read_of numbers_at
  coff_many l f = full_is false _ _ _ early _ h (must_off Err _ _ _ (lt-leb _ _ (rw e at l)) f)

  -- it is not, and what is answered is the reading of the rest
  pub coff_rest : {x : Result CoffHeader Refusal} → n ≤ section_limit
      → x ≡ read_by (λ ns. Ok (header_of (numbers_at false early s at ++ ns))) (λ end. Err (cut_of end)) false late s (at + 4)
      → x ≡ read_of s at
  unfolding read_of numbers_at
  coff_rest l f = full_is false _ _ _ early _ h (must_on Err _ _ _ (le-leb _ _ (rw e at l)) f)

never : {h : CoffHeader} {k : Refusal} → Ok h ≡ Err k → ⊥
never e = let z : ◌≡◌ {A = ℕ} 0 1 = cc in omega arith

same_header : {h g : CoffHeader} → ◌≡◌ {A = Result CoffHeader Refusal} (Ok h) (Ok g) → h ≡ g
same_header e = cc

-- what a header that was read says
pub record Whole (s : List ℕ) (at : ℕ) (h : CoffHeader) : Type 0 where
  pub inside : at + 20 ≤ length s
  pub few : h.number_of_sections ≤ section_limit
  pub value : h ≡ header_of (numbers_at false coff_header s at)

-- all fields of the header, from the two parts in which they are read
both : (s : List ℕ) (at : ℕ) → numbers_at false early s at ++ numbers_at false late s (at + 4) ≡ numbers_at false coff_header s at
unfolding numbers_at
both s at = let e : at + 2 + 2 ≡ at + 4 = omega arith in rw e

count_is : (s : List ℕ) (at : ℕ) → (header_of (numbers_at false coff_header s at)).number_of_sections ≡ number_at false 2 s (at + 2)
unfolding numbers_at
count_is s at = refl

by_rest : (s : List ℕ) (at : ℕ) {h : CoffHeader} {x : Result CoffHeader Refusal} → number_at false 2 s (at + 2) ≤ section_limit → Ok h ≡ x → Reads
    (Ok (header_of (numbers_at false early s at ++ numbers_at false late s (at + 4)))) (λ (end : ℕ). Err (cut_of end)) late s (at + 4) x
    → Whole s at h
by_rest s at l e (whole r f) =
    let v = same_header (e ∙ f ∙ ap (λ (ns : List ℕ). Ok (header_of ns)) (both s at)) in
    record { inside = omega (arith, r (omega arith)); few = rw (v, count_is s at) l; value = v }
by_rest s at l e (missing n a b f) = absurd (never (e ∙ f))

by_count : (s : List ℕ) (at : ℕ) {h : CoffHeader} → at + 4 ≤ length s → Ok h ≡ read_of s at
    → (number_at false 2 s (at + 2) ≤ section_limit) ⊎ (section_limit < number_at false 2 s (at + 2)) → Whole s at h
by_count s at r e (inl l) =
    by_rest s at l (e ∙ sym (coff_rest s at r refl l refl))
    (reads (λ ns. Ok (header_of (numbers_at false early s at ++ ns))) (λ end. Err (cut_of end)) false late s (at + 4))
by_count s at r e (inr l) = absurd (never (e ∙ sym (coff_many s at r refl l refl)))

by_start : (s : List ℕ) (at : ℕ) {h : CoffHeader} {f : Result CoffHeader Refusal} → Ok h ≡ read_of s at
    → Reads f (λ (end : ℕ). Err (cut_of end)) early s at (read_of s at) → Whole s at h
by_start s at e (whole r f) = by_count s at (r (omega arith)) e (le_or_lt (number_at false 2 s (at + 2)) section_limit)
by_start s at e (missing n a b f) = absurd (never (e ∙ f))

module _ (s : List ℕ) (at : ℕ) {r : Result CoffHeader Refusal} (e : r ≡ read_of s at) where
  pub coff_whole : {h : CoffHeader} → r ≡ Ok h → Whole s at h
  unfolding read_of
  coff_whole f = by_start s at (sym f ∙ e) (reads _ (λ end. Err (cut_of end)) false early s at)

-- a header whose section count is within the limit and whose bytes are all there
pub coff_full : (s : List ℕ) (at : ℕ) → at + 20 ≤ length s → number_at false 2 s (at + 2) ≤ section_limit
    → Ok (header_of (numbers_at false coff_header s at)) ≡ read_of s at
coff_full s at h l =
    coff_rest s at (omega arith) refl l
    (full_is false s _ _ late (at + 4) (omega arith) (ap (λ (ns : List ℕ). Ok (header_of ns)) (sym (both s at))))
