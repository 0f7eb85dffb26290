-- What is proved of opening a file, for every input. That `open` answers its definition is its contract (src/lib.rt).
-- Assumes nothing.
use Rattle.pe_optional.specs.declared.DataDirectory.{DataDirectory}
use Rattle.std.specs.Prelude.{Result, Ok, Err, Option, Some, None, ℕ, List, ◌≡◌}
use Rattle.answer.specs.declared.Refusal.{Refusal}
use mathlib.Core.Path.{◌≡◌, refl, sym, ap, ◌∙◌}
use mathlib.Core.List.{List, ◌++◌}
use mathlib.Core.Bool.{false}
use mathlib.Core.Logic.{◌⊎◌, inl, inr, ⊎_elim}
use Prim.Native.Nat.{ℕ, ◌+◌, ◌*◌, ◌≤◌, ◌<◌}
use native.Mathlib.Omega.{arith}
use lib.ListN.{length, take, drop, take-append-drop, length-take, length-append}
use Rattle.answer.specs.Answer.{number, values, refuse_of, limit}
use Rattle.answer.specs.Test.{file_limit}
use Rattle.answer.proofs.Theorems.{cut_is_one}
use Rattle.answer.proofs.Unique.{same}
use Rattle.fields.specs.Number.{number_at}
use Rattle.pe_coff.specs.declared.CoffHeader.{CoffHeader}
use Rattle.pe_coff.proofs.Laws.{coff_whole, coff_many}
use Rattle.pe_optional.specs.Optional.{read_of}
use Rattle.pe_optional.specs.declared.OptionalHeader.{OptionalHeader}
use Rattle.pe_optional.specs.Answers.{numbers_of}
use Rattle.pe_section.specs.Section.{section_limit}
use Rattle.pe_header.specs.Header.{pointer_in, pe_magic, coff_in, optional_offset_of, header_of, open_of}
use Rattle.pe_header.specs.Answers.{answer_open_header, count_open_header, header_numbers}
use Rattle.pe_header.specs.declared.Header.{Header}
use Rattle.pe_header.proofs.Laws.{coff_there_lem, open_long, open_coff, open_whole}
use Rattle.pe_header.proofs.Prefix.{Upto, equal, missing, header_upto}
use Rattle.pe_header.proofs.Parts.{Parts, parts, coff_after, rows_there_lem, row_cut}

-- The file's length comes first: a file of more than 268,435,456 bytes is 3, whatever its bytes.
pub length_first : (s : List ℕ) → file_limit < length s → Err (refuse_of limit) ≡ open_of s
length_first s l = open_long s l refl

-- An accepted file's answer is made of the parts of its headers, each as its own reader answers it.
pub opened_parts : (s : List ℕ) (h : Header) → Ok h ≡ open_of s → Parts s h
opened_parts = parts

-- Headers whose parts are there, and a section table that ends in the file, are accepted.
pub parts_opened : (s : List ℕ) (pe : ℕ) (c : CoffHeader) (o : OptionalHeader) → length s ≤ file_limit → Ok pe ≡ pointer_in s
    → Ok c ≡ coff_in s pe → Ok o ≡ read_of s (optional_offset_of pe) c.size_of_optional_header
    → (0 < c.number_of_sections → optional_offset_of pe + c.size_of_optional_header + 40 * c.number_of_sections ≤ length s)
    → Ok (header_of pe c o) ≡ open_of s
parts_opened s pe c o l ep ec eo f = open_whole s l ep refl ec refl eo refl (rows_there_lem _ s _ f) refl

-- Where a row that the section count asks for does not lie in the file, and all before it is accepted, the answer is 1.
pub row_missing : (s : List ℕ) (pe : ℕ) (c : CoffHeader) (o : OptionalHeader) (index : ℕ) → length s ≤ file_limit
    → Ok pe ≡ pointer_in s → Ok c ≡ coff_in s pe
    → Ok o ≡ read_of s (optional_offset_of pe) c.size_of_optional_header → index < c.number_of_sections
    → length s < optional_offset_of pe + c.size_of_optional_header + 40 * index + 40 → number (answer_open_header (open_of s)) ≡ 1
row_missing s pe c o index l ep ec eo i m = row_cut s pe c o l ep ec eo index i m

inside_of : (s : List ℕ) (h : Header) → Parts s h → 0 < h.number_of_sections
    → h.section_table + 40 * h.number_of_sections ≤ length s
inside_of s h p = rw p.value p.rows_there

-- The section table of an accepted file ends in the file; where there is no section, nothing of it is needed.
pub table_inside : (s : List ℕ) (h : Header) → Ok h ≡ open_of s → 0 < h.number_of_sections
    → h.section_table + 40 * h.number_of_sections ≤ length s
table_inside s h e = inside_of s h (parts s h e)

few_of : (s : List ℕ) (h : Header) → Parts s h → h.number_of_sections ≤ section_limit
few_of s h p = rw p.value (coff_whole s (p.pe + 4) (coff_after s p.pe p.coff_there) refl).few

-- An accepted file has at most 96 sections.
pub few_sections : (s : List ℕ) (h : Header) → Ok h ≡ open_of s → h.number_of_sections ≤ section_limit
few_sections s h e = few_of s h (parts s h e)

-- A count of 97 is 3, whatever follows it.
pub ninety_seven : (s : List ℕ) (pe : ℕ) → length s ≤ file_limit → Ok pe ≡ pointer_in s → pe + 8 ≤ length s
    → number_at false 4 s pe ≡ pe_magic → number_at false 2 s (pe + 4 + 2) ≡ 97 → Err (refuse_of limit) ≡ open_of s
ninety_seven s pe l ep h m n =
    let c : Err (refuse_of limit) ≡ coff_in s pe = coff_there_lem s pe (omega arith) refl m
    (coff_many s (pe + 4) (omega arith) refl (omega arith) refl) in
    open_coff s l ep refl c refl

by_upto : {x y : Result Header Refusal} → Upto Err x y → (x ≡ y) ⊎ (number (answer_open_header x) ≡ 1)
by_upto (equal e) = inl e
by_upto (missing end e) = inr (ap (λ (o : Result Header Refusal). number (answer_open_header o)) e ∙ cut_is_one end)

-- The front of a file, cut anywhere, is answered as the file is, or with 1.
pub cut_anywhere : (s : List ℕ) (n : ℕ) → length s ≤ file_limit
    → (open_of (take n s) ≡ open_of s) ⊎ (number (answer_open_header (open_of (take n s))) ≡ 1)
cut_anywhere s n l =
    let e : take n s ++ drop n s ≡ s = take-append-drop n s in
    by_upto (rw e at (header_upto (take n s) (drop n s) (rw e l)))

-- An accepted file with sections, cut before the end of its section table, answers 1.
pub cut_headers : (s : List ℕ) (h : Header) (n : ℕ) → Ok h ≡ open_of s → 0 < h.number_of_sections
    → n < h.section_table + 40 * h.number_of_sections → number (answer_open_header (open_of (take n s))) ≡ 1
cut_headers s h n e p r =
    ⊎_elim
    (λ f.
    let i : h.section_table + 40 * h.number_of_sections ≤ length (take n s) = table_inside (take n s) h (e ∙ sym f) p in
    absurd (omega (arith, length-take n s)))
    (λ f. f)
    (cut_anywhere s n (parts s h e).in_limits)

-- Two answers that meet the promise of this crate are equal.
pub open_unique : (s : List ℕ) {r q : Result Header Refusal} → r ≡ open_of s → q ≡ open_of s → r ≡ q
open_unique s = same

-- The answer has as many numbers as it says, zeros where it is refused.
two_numbers : (d : Option DataDirectory) → length (numbers_of d) ≡ 2
two_numbers None = refl
two_numbers (Some d) = refl

pub open_count : (a : Result Header Refusal) → length (values count_open_header (answer_open_header a)) ≡ count_open_header
open_count (Ok h) = simp length-append (omega (arith, two_numbers h.exceptions))
open_count (Err k) = refl

-- The numbers that it stands for are fixed.
pub numbers_unique : (a : Header) {r q : List ℕ} → r ≡ header_numbers a → q ≡ header_numbers a → r ≡ q
numbers_unique a = same
