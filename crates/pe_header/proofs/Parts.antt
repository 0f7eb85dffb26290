-- What the answer for an accepted file says of each part of its headers, and of the rows of its section table.
-- Assumes nothing.
use Rattle.std.specs.Prelude.{Result, Ok, Err, ℕ}
use Rattle.answer.specs.Answer.{on_ok, number, number_of, cut_of}
use mathlib.Core.Path.{◌≡◌, refl, sym, ap, ◌∙◌}
use mathlib.Core.List.{List}
use mathlib.Core.Bool.{Bool, true, false}
use mathlib.Core.Logic.{⊎_elim}
use Prim.Native.Nat.{ℕ, zero, suc, ◌+◌, ◌-◌, ◌*◌, ◌≤◌, ◌<◌}
use native.Mathlib.Nat.{not-suc-le-zero}
use native.Mathlib.Omega.{arith}
use lib.ListN.{length}
use lib.Dec.{eqb}
use borrow.Author.Tests.{eqb-true, eqb-false}
use Rattle.answer.specs.Test.{file_limit}
use Rattle.answer.specs.declared.Refusal.{Refusal}
use Rattle.answer.proofs.Theorems.{cut_is_one}
use Rattle.fields.specs.Number.{number_at}
use Rattle.fields.proofs.Laws.{le_or_lt}
use Rattle.layout.proofs.Theorems.{Reads, whole, cut as missing, reads}
use Rattle.pe_coff.specs.Coff.{read_of as coff_at}
use Rattle.pe_coff.specs.declared.CoffHeader.{CoffHeader}
use Rattle.pe_optional.specs.Optional.{read_of as optional_at}
use Rattle.pe_optional.specs.declared.OptionalHeader.{OptionalHeader}
use Rattle.pe_section.specs.Section.{section_table_of, row_of, read_of as row_at}
use Rattle.pe_section.specs.declared.SectionTable.{SectionTable}
use Rattle.pe_section.proofs.Laws.{row_whole, row_full}
use Rattle.pe_header.specs.Header.{pointer_in, pe_magic, coff_in, optional_offset_of, rows_at, header_of, open_of}
use Rattle.pe_header.specs.Answers.{answer_open_header}
use Rattle.pe_header.specs.declared.Header.{Header}
use Rattle.pe_header.proofs.Laws.{check_rows, coff_missed, coff_wrong, coff_there_lem, open_long, open_pointer, open_coff, open_optional, open_rows, open_whole, rows_none, rows_on}

-- the parts of an accepted file's headers
pub record Parts (s : List ℕ) (h : Header) : Type 0 where
  pub pe : ℕ
  pub file_header : CoffHeader
  pub optional_header : OptionalHeader
  pub in_limits : length s ≤ file_limit
  pub pointer : Ok pe ≡ pointer_in s
  pub coff_there : Ok file_header ≡ coff_in s pe
  pub optional_there : Ok optional_header ≡ optional_at s (optional_offset_of pe) file_header.size_of_optional_header
  pub rows_there : 0 < file_header.number_of_sections
      → optional_offset_of pe + file_header.size_of_optional_header + 40 * file_header.number_of_sections ≤ length s
  pub value : h ≡ header_of pe file_header optional_header

never_whole : {k : Refusal} → ◌≡◌ {A = Result Unit Refusal} (Ok tt) (Err k) → ⊥
never_whole e = let z : ◌≡◌ {A = ℕ} 0 1 = cc in omega arith

next_inside : (n : ℕ) (s : List ℕ) (at : ℕ) → at + 40 ≤ length s → (0 < n → at + 40 + 40 * n ≤ length s) → at + 40 * suc n ≤ length s
next_inside zero s at h f = omega arith
next_inside (suc n) s at h f = omega (arith, f (omega arith))

row_inside : (n : ℕ) (s : List ℕ) (at : ℕ) (r : Result SectionTable Refusal) → r ≡ row_at s at
    → (Ok tt ≡ check_rows n s (at + 40) → 0 < n → at + 40 + 40 * n ≤ length s)
    → Ok tt ≡ on_ok r Err (λ h. check_rows n s (at + 40)) → at + 40 * suc n ≤ length s
row_inside n s at (Ok h) e f g = next_inside n s at (row_whole s at e refl).inside (f g)
row_inside n s at (Err k) e f g = absurd (never_whole g)

-- rows that are all there end in the file
pub rows_inside : (n : ℕ) (s : List ℕ) (at : ℕ) → Ok tt ≡ check_rows n s at → 0 < n → at + 40 * n ≤ length s
unfolding rows_at
rows_inside zero s at e p = absurd (not-suc-le-zero p)
rows_inside (suc n) s at e p = row_inside n s at (row_at s at) refl (rows_inside n s (at + 40)) e

-- rows that end in the file are all there
pub rows_there_lem : (n : ℕ) (s : List ℕ) (at : ℕ) → (0 < n → at + 40 * n ≤ length s) → Ok tt ≡ check_rows n s at
rows_there_lem zero s at f = rows_none 0 s at (omega arith)
rows_there_lem (suc n) s at f =
    let h : at + 40 * suc n ≤ length s = f (omega arith) in
    let q : suc n - 1 ≡ n = omega arith in
    let e : check_rows (suc n) s at ≡ check_rows n s (at + 40) = rw q at
    (rows_on (suc n) s at (omega arith) (row_full s at (omega arith)) refl) in
    rows_there_lem n s (at + 40) (λ p. omega arith) ∙ sym e

never : {h : Header} {k : Refusal} → ◌≡◌ {A = Result Header Refusal} (Ok h) (Err k) → ⊥
never e = let z : ◌≡◌ {A = ℕ} 0 1 = cc in omega arith

same_header : {h g : Header} → ◌≡◌ {A = Result Header Refusal} (Ok h) (Ok g) → h ≡ g
same_header e = cc

module _ (s : List ℕ) {h : Header} (e : Ok h ≡ open_of s) (l : length s ≤ file_limit) where
  by_rows : (pe : ℕ) (c : CoffHeader) (o : OptionalHeader) → Ok pe ≡ pointer_in s → Ok c ≡ coff_in s pe
      → Ok o ≡ optional_at s (optional_offset_of pe) c.size_of_optional_header → (r : Result Unit Refusal)
      → r ≡ check_rows c.number_of_sections s (optional_offset_of pe + c.size_of_optional_header) → Parts s h
  by_rows pe c o ep ec eo (Ok tt) er =
      record {
        pe = pe;
        file_header = c;
        optional_header = o;
        in_limits = l;
        pointer = ep;
        coff_there = ec;
        optional_there = eo;
        rows_there = rows_inside _ s _ er;
        value = same_header (e ∙ sym (open_whole s l ep refl ec refl eo refl er refl));
      }
  by_rows pe c o ep ec eo (Err k) er = absurd (never (e ∙ sym (open_rows s l ep refl ec refl eo refl er refl)))

  by_optional : (pe : ℕ) (c : CoffHeader) → Ok pe ≡ pointer_in s → Ok c ≡ coff_in s pe → (r : Result OptionalHeader Refusal)
      → r ≡ optional_at s (optional_offset_of pe) c.size_of_optional_header → Parts s h
  by_optional pe c ep ec (Ok o) er = by_rows pe c o ep ec er
      (check_rows c.number_of_sections s (optional_offset_of pe + c.size_of_optional_header)) refl
  by_optional pe c ep ec (Err k) er = absurd (never (e ∙ sym (open_optional s l ep refl ec refl er refl)))

  by_coff : (pe : ℕ) → Ok pe ≡ pointer_in s → (r : Result CoffHeader Refusal) → r ≡ coff_in s pe → Parts s h
  by_coff pe ep (Ok c) er = by_optional pe c ep er (optional_at s (optional_offset_of pe) c.size_of_optional_header) refl
  by_coff pe ep (Err k) er = absurd (never (e ∙ sym (open_coff s l ep refl er refl)))

  by_pointer : (r : Result ℕ Refusal) → r ≡ pointer_in s → Parts s h
  by_pointer (Ok pe) er = by_coff pe er (coff_in s pe) refl
  by_pointer (Err k) er = absurd (never (e ∙ sym (open_pointer s l er refl)))

pub parts : (s : List ℕ) (h : Header) → Ok h ≡ open_of s → Parts s h
parts s h e =
    ⊎_elim
    (λ l. by_pointer s e l (pointer_in s) refl)
    (λ l. absurd (never (e ∙ sym (open_long s l refl))))
    (le_or_lt (length s) file_limit)

never_coff : {c : CoffHeader} {k : Refusal} → ◌≡◌ {A = Result CoffHeader Refusal} (Ok c) (Err k) → ⊥
never_coff e = let z : ◌≡◌ {A = ℕ} 0 1 = cc in omega arith

by_signature : (s : List ℕ) (pe : ℕ) {c : CoffHeader} (t : Bool) → eqb (number_at false 4 s pe) pe_magic ≡ t → pe + 4 ≤ length s
    → Ok c ≡ coff_in s pe → Ok c ≡ coff_at s (pe + 4)
by_signature s pe true b h e = e ∙ sym (coff_there_lem s pe h refl (eqb-true _ _ b) refl)
by_signature s pe false b h e = absurd (never_coff (e ∙ sym (coff_wrong s pe h refl (eqb-false _ _ b) refl)))

-- a COFF header that was read follows the signature
pub coff_after : (s : List ℕ) (pe : ℕ) {c : CoffHeader} → Ok c ≡ coff_in s pe → Ok c ≡ coff_at s (pe + 4)
coff_after s pe e =
    ⊎_elim
    (λ h. by_signature s pe (eqb (number_at false 4 s pe) pe_magic) refl h e)
    (λ h. absurd (never_coff (e ∙ sym (coff_missed s pe (record { past = h; why = refl })))))
    (le_or_lt (pe + 4) (length s))

same_refusal : {k j : Refusal} → ◌≡◌ {A = Result SectionTable Refusal} (Err k) (Err j) → k ≡ j
same_refusal e = cc

same_rows : {k j : Refusal} → ◌≡◌ {A = Result Unit Refusal} (Err k) (Err j) → k ≡ j
same_rows e = cc

row_never : {h : SectionTable} {k : Refusal} → ◌≡◌ {A = Result SectionTable Refusal} (Ok h) (Err k) → ⊥
row_never e = let z : ◌≡◌ {A = ℕ} 0 1 = cc in omega arith

row_by : (s : List ℕ) (at : ℕ) {k : Refusal} {h : SectionTable} {x : Result SectionTable Refusal} → Err k ≡ x
    → Reads (Ok h) (λ (end : ℕ). Err (cut_of end)) section_table_of s at x → number_of k ≡ 1
row_by s at e (whole r f) = absurd (row_never (sym (e ∙ f)))
row_by s at e (missing n a b f) = ap number_of (same_refusal (e ∙ f)) ∙ cut_is_one n

-- a row that is refused is refused with 1
row_short : (s : List ℕ) (at : ℕ) {k : Refusal} → Err k ≡ row_at s at → number_of k ≡ 1
unfolding row_at
row_short s at e = row_by s at e (reads (λ ns. Ok (row_of ns)) (λ end. Err (cut_of end)) false section_table_of s at)

rows_by : (n : ℕ) (s : List ℕ) (at : ℕ) {k : Refusal} (r : Result SectionTable Refusal) → r ≡ row_at s at
    → (Err k ≡ check_rows n s (at + 40) → number_of k ≡ 1)
    → Err k ≡ on_ok r Err (λ h. check_rows n s (at + 40)) → number_of k ≡ 1
rows_by n s at (Ok h) e f g = f g
rows_by n s at (Err j) e f g = ap number_of (same_rows g) ∙ row_short s at e

-- rows that are refused are refused with 1
rows_short : (n : ℕ) (s : List ℕ) (at : ℕ) {k : Refusal} → Err k ≡ check_rows n s at → number_of k ≡ 1
unfolding rows_at
rows_short zero s at e = absurd (never_whole (sym e))
rows_short (suc n) s at e = rows_by n s at (row_at s at) refl (rows_short n s (at + 40)) e

-- A row that the section count asks for is not in the file.
module _ (s : List ℕ) (pe : ℕ) (c : CoffHeader) (o : OptionalHeader) (l : length s ≤ file_limit) (ep : Ok pe ≡ pointer_in s)
    (ec : Ok c ≡ coff_in s pe) (eo : Ok o ≡ optional_at s (optional_offset_of pe) c.size_of_optional_header) (index : ℕ)
    (i : index < c.number_of_sections) (m : length s < optional_offset_of pe + c.size_of_optional_header + 40 * index + 40) where
  cut_by_lem : (r : Result Unit Refusal) → r ≡ check_rows c.number_of_sections s (optional_offset_of pe + c.size_of_optional_header)
      → number (answer_open_header (open_of s)) ≡ 1
  cut_by_lem (Ok tt) er = absurd (omega (arith, i, m, rows_inside _ s _ er (omega (arith, i))))
  cut_by_lem (Err k) er =
      ap (λ (x : Result Header Refusal). number (answer_open_header x)) (sym (open_rows s l ep refl ec refl eo refl er refl)) ∙ rows_short _ s _ er

  pub row_cut : number (answer_open_header (open_of s)) ≡ 1
  row_cut = cut_by_lem (check_rows c.number_of_sections s (optional_offset_of pe + c.size_of_optional_header)) refl
