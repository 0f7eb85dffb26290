-- The laws of opening a file, a law for each outcome of each check: what the proofs of this crate cite.
-- Assumes nothing.
use Rattle.pe_header.specs.declared.Header.{Header}
use Rattle.std.specs.Prelude.{Result, Ok, Err, ℕ}
use Rattle.answer.specs.Answer.{on_ok, refuse_of, magic, limit}
use mathlib.Core.Path.{◌≡◌, refl, sym, ap, ◌∙◌}
use mathlib.Core.List.{List}
use mathlib.Core.Bool.{false}
use Prim.Native.Nat.{ℕ, zero, suc, ◌+◌, ◌-◌, ◌≤◌, ◌<◌}
use native.Mathlib.Nat.{not-suc-le-zero}
use native.Mathlib.Omega.{arith}
use lib.ListN.{length}
use borrow.Author.Tests.{le-leb, lt-leb, eq-eqb, ne_eqb}
use Rattle.answer.specs.Test.{file_limit}
use Rattle.answer.specs.declared.Refusal.{Refusal}
use Rattle.answer.proofs.Laws.{must_on, must_off}
use Rattle.fields.specs.Number.{number_at}
use Rattle.fields.proofs.Laws.{Missed, field_value, field_cut}
use Rattle.pe_dos.specs.Dos.{read_of as dos_at}
use Rattle.pe_dos.specs.declared.DosHeader.{DosHeader}
use Rattle.pe_coff.specs.Coff.{read_of as coff_at}
use Rattle.pe_coff.specs.declared.CoffHeader.{CoffHeader}
use Rattle.pe_optional.specs.Optional.{read_of as optional_at}
use Rattle.pe_optional.specs.declared.OptionalHeader.{OptionalHeader}
use Rattle.pe_section.specs.Section.{read_of as row_at}
use Rattle.pe_section.specs.declared.SectionTable.{SectionTable}
use Rattle.pe_header.specs.Header.{pointer_in, pe_magic, coff_in, optional_offset_of, rows_at, header_of, open_of}

-- The PE pointer, from what the reading of the DOS header tells.
module _ (s : List ℕ) {r : Result DosHeader Refusal} (e : r ≡ dos_at s 0) where
  pub pointer_read : {d : DosHeader} → r ≡ Ok d → Ok d.pe_pointer ≡ pointer_in s
  unfolding pointer_in
  pointer_read f = rw (← e, f)

  pub pointer_missed : {k : Refusal} → r ≡ Err k → Err k ≡ pointer_in s
  unfolding pointer_in
  pointer_missed f = rw (← e, f)

-- The COFF header after the signature.
module _ (s : List ℕ) (pe : ℕ) where
  pub coff_missed : {k : Refusal} → Missed 4 s pe k → Err k ≡ coff_in s pe
  unfolding coff_in
  coff_missed m = field_cut _ Err false 4 s pe m.past m.why

  module _ {n : ℕ} (h : pe + 4 ≤ length s) (e : n ≡ number_at false 4 s pe) where
    pub coff_wrong : {k : Refusal} → (n ≡ pe_magic → ⊥) → k ≡ refuse_of magic → Err k ≡ coff_in s pe
    unfolding coff_in
    coff_wrong l f = must_off Err _ magic (coff_at s (pe + 4)) (ne_eqb n pe_magic l) f ∙ field_value _ Err false 4 s pe h e

    pub coff_there_lem : {x : Result CoffHeader Refusal} → n ≡ pe_magic → x ≡ coff_at s (pe + 4) → x ≡ coff_in s pe
    unfolding coff_in
    coff_there_lem l f = must_on Err _ magic (coff_at s (pe + 4)) (eq-eqb n pe_magic l) f ∙ field_value _ Err false 4 s pe h e

-- what the code's check of the rows answers
abbrev pub check_rows : ℕ → List ℕ → ℕ → Result Unit Refusal
check_rows n s at = rows_at Err n s at (Ok tt)

turn : (n : ℕ) (s : List ℕ) (at : ℕ) → 0 < n
    → check_rows n s at ≡ on_ok (row_at s at) Err (λ h. check_rows (n - 1) s (at + 40))
unfolding rows_at
turn zero s at p = absurd (not-suc-le-zero p)
turn (suc n) s at p = let q : suc n - 1 ≡ n = omega arith in rw q

-- The rows of the section table.
module _ (n : ℕ) (s : List ℕ) (at : ℕ) where
  pub rows_none : n ≤ 0 → Ok tt ≡ check_rows n s at
  unfolding rows_at
  rows_none l = let e : n ≡ 0 = omega arith in rw e

  module _ (p : 0 < n) {r : Result SectionTable Refusal} (e : r ≡ row_at s at) where
    pub rows_missed : {k : Refusal} → r ≡ Err k → Err k ≡ check_rows n s at
    rows_missed f = rw (turn n s at p, ← e, f)

    pub rows_on : {h : SectionTable} → r ≡ Ok h → check_rows n s at ≡ check_rows (n - 1) s (at + 40)
    rows_on f = rw (turn n s at p, ← e, f)

-- how a definition goes on from the code's answer
abbrev on_rows : {A : Type 0} → Result Unit Refusal → (Refusal → A) → A → A
on_rows r refusal on = on_ok r refusal (λ u. on)

row_mapped : {A B : Type 0} (f : A → B) (refusal : Refusal → A) (r : Result SectionTable Refusal) {a : A} {b : B} → f a ≡ b
    → f (on_ok r refusal (λ h. a)) ≡ on_ok r (λ k. f (refusal k)) (λ h. b)
row_mapped f refusal (Ok h) e = e
row_mapped f refusal (Err k) e = refl

rows_mapped : {A B : Type 0} (f : A → B) (refusal : Refusal → A) (n : ℕ) (s : List ℕ) (at : ℕ) (on : A)
    → f (rows_at refusal n s at on) ≡ rows_at (λ k. f (refusal k)) n s at (f on)
unfolding rows_at
rows_mapped f refusal zero s at on = refl
rows_mapped f refusal (suc n) s at on = row_mapped f refusal (row_at s at) (rows_mapped f refusal n s (at + 40) on)

-- what the code's answer tells of opening
rows_told : (n : ℕ) (s : List ℕ) (at : ℕ) (x : Result Header Refusal) {r q : Result Unit Refusal} → r ≡ check_rows n s at → r ≡ q
    → on_rows q Err x ≡ rows_at Err n s at x
rows_told n s at x e f =
    ap (λ (y : Result Unit Refusal). on_rows y Err x) (sym f ∙ e) ∙ rows_mapped (λ y. on_rows y Err x) Err n s at (Ok tt)

-- Opening: each check in file order.
pub open_long : (s : List ℕ) {k : Refusal} → file_limit < length s → k ≡ refuse_of limit → Err k ≡ open_of s
unfolding open_of
open_long s l e = must_off Err _ _ _ (lt-leb _ _ l) e

module _ (s : List ℕ) (l : length s ≤ file_limit) where
  pub open_pointer : {r : Result ℕ Refusal} {k : Refusal} → r ≡ pointer_in s → r ≡ Err k → Err k ≡ open_of s
  unfolding open_of
  open_pointer e f = must_on Err _ _ _ (le-leb _ _ l) (rw (← e, f))

  module _ {p : Result ℕ Refusal} {pe : ℕ} (ep : p ≡ pointer_in s) (fp : p ≡ Ok pe) where
    pub open_coff : {r : Result CoffHeader Refusal} {k : Refusal} → r ≡ coff_in s pe → r ≡ Err k → Err k ≡ open_of s
    unfolding open_of
    open_coff e f = must_on Err _ _ _ (le-leb _ _ l) (rw (← ep, fp, ← e, f))

    module _ {x : Result CoffHeader Refusal} {c : CoffHeader} (ec : x ≡ coff_in s pe) (fc : x ≡ Ok c) where
      pub open_optional : {r : Result OptionalHeader Refusal} {k : Refusal} → r ≡ optional_at s (optional_offset_of pe) c.size_of_optional_header
          → r ≡ Err k → Err k ≡ open_of s
      unfolding open_of
      open_optional e f = must_on Err _ _ _ (le-leb _ _ l) (rw (← ep, fp, ← ec, fc, ← e, f))

      module _ {y : Result OptionalHeader Refusal} {o : OptionalHeader} (eo : y ≡ optional_at s (optional_offset_of pe) c.size_of_optional_header)
          (fo : y ≡ Ok o) {r : Result Unit Refusal}
          (er : r ≡ check_rows c.number_of_sections s (optional_offset_of pe + c.size_of_optional_header)) where
        told : {q : Result Unit Refusal} → r ≡ q → on_rows q Err (Ok (header_of pe c o)) ≡ open_of s
        unfolding open_of
        told f = must_on Err _ _ _ (le-leb _ _ l) (rw (← ep, fp, ← ec, fc, ← eo, fo) (rows_told _ s _ (Ok (header_of pe c o)) er f))

        pub open_rows : {k : Refusal} → r ≡ Err k → Err k ≡ open_of s
        open_rows f = told f

        pub open_whole : r ≡ Ok tt → Ok (header_of pe c o) ≡ open_of s
        open_whole f = told f
