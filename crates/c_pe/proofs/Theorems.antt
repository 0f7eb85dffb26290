-- What is proved of the C functions of this crate, for every input: two answers that meet a promise are equal, and so is what they leave in
-- the
-- memory that they were lent.
-- Assumes nothing.
use mathlib.Core.Path.{◌≡◌}
use mathlib.Core.List.{List}
use Prim.Native.Nat.{ℕ}
use Rattle.answer.proofs.Unique.{same, same_both}
use Rattle.answer.specs.Answer.{number, values}
use Rattle.c_sections.specs.Sections.{read_sections_of}
use Rattle.fields.specs.Answers.{answer_write_bytes}
use Rattle.pe_coff.specs.Answers.{answer_read_coff_header, count_read_coff_header}
use Rattle.pe_coff.specs.Coff.{read_of as read_coff_of}
use Rattle.pe_dos.specs.Answers.{answer_read_dos_header, header_or_zeros}
use Rattle.pe_dos.specs.Dos.{read_of as read_dos_of, write_of as write_dos_of, write_out as write_dos_out}
use Rattle.pe_header.specs.Answers.{answer_open_header, count_open_header}
use Rattle.pe_header.specs.Header.{open_of}
use Rattle.pe_mapping.specs.Answers.{answer_find_offset, count_find_offset}
use Rattle.pe_mapping.specs.Mapping.{find_offset_of}
use Rattle.pe_optional.specs.Answers.{answer_read_optional_header, count_read_optional_header}
use Rattle.pe_optional.specs.Optional.{read_of as read_optional_of}
use Rattle.pe_section.specs.Answers.{answer_read_section_table, count_read_section_table}
use Rattle.pe_section.specs.Section.{get_row_of}
use Rattle.c_pe.specs.Numbers.{dos_header_of, halves_of}

pub hullsift_read_dos_header_unique : (bytes : List ℕ) (at : ℕ) {r q : ℕ} {l k : List ℕ} {m j : ℕ}
    → (r ≡ number (answer_read_dos_header (read_dos_of bytes at))) × (l ≡ halves_of (header_or_zeros (read_dos_of bytes at))) ×
    (m ≡ (header_or_zeros (read_dos_of bytes at)).pe_pointer)
    → (q ≡ number (answer_read_dos_header (read_dos_of bytes at))) × (k ≡ halves_of (header_or_zeros (read_dos_of bytes at))) ×
    (j ≡ (header_or_zeros (read_dos_of bytes at)).pe_pointer) → (r ≡ q) × (l ≡ k) × (m ≡ j)
hullsift_read_dos_header_unique bytes at = λ e f. (same e.0 f.0, same e.1 f.1, same e.2 f.2)

pub hullsift_write_dos_header_unique : (bytes : List ℕ) (at : ℕ) (halves : List ℕ) (pe_pointer : ℕ) {r q : ℕ} {l k : List ℕ}
    → (r ≡ number (answer_write_bytes (write_dos_of bytes at (dos_header_of halves pe_pointer)))) ×
    (l ≡ write_dos_out bytes at (dos_header_of halves pe_pointer))
    → (q ≡ number (answer_write_bytes (write_dos_of bytes at (dos_header_of halves pe_pointer)))) ×
    (k ≡ write_dos_out bytes at (dos_header_of halves pe_pointer)) → (r ≡ q) × (l ≡ k)
hullsift_write_dos_header_unique bytes at halves pe_pointer = same_both

pub hullsift_read_coff_header_unique : (bytes : List ℕ) (at : ℕ) {r q : ℕ} {l k : List ℕ}
    → (r ≡ number (answer_read_coff_header (read_coff_of bytes at))) ×
    (l ≡ values count_read_coff_header (answer_read_coff_header (read_coff_of bytes at)))
    → (q ≡ number (answer_read_coff_header (read_coff_of bytes at))) ×
    (k ≡ values count_read_coff_header (answer_read_coff_header (read_coff_of bytes at))) → (r ≡ q) × (l ≡ k)
hullsift_read_coff_header_unique bytes at = same_both

pub hullsift_read_optional_header_unique : (bytes : List ℕ) (at size : ℕ) {r q : ℕ} {l k : List ℕ}
    → (r ≡ number (answer_read_optional_header (read_optional_of bytes at size))) ×
    (l ≡ values count_read_optional_header (answer_read_optional_header (read_optional_of bytes at size)))
    → (q ≡ number (answer_read_optional_header (read_optional_of bytes at size))) ×
    (k ≡ values count_read_optional_header (answer_read_optional_header (read_optional_of bytes at size))) → (r ≡ q) × (l ≡ k)
hullsift_read_optional_header_unique bytes at size = same_both

pub hullsift_pe_open_unique : (file : List ℕ) {r q : ℕ} {l k : List ℕ}
    → (r ≡ number (answer_open_header (open_of file))) × (l ≡ values count_open_header (answer_open_header (open_of file)))
    → (q ≡ number (answer_open_header (open_of file))) × (k ≡ values count_open_header (answer_open_header (open_of file))) → (r ≡ q) × (l ≡ k)
hullsift_pe_open_unique file = same_both

pub hullsift_section_unique : (file : List ℕ) (table count index : ℕ) {r q : ℕ} {l k : List ℕ}
    → (r ≡ number (answer_read_section_table (get_row_of file table count index))) ×
    (l ≡ values count_read_section_table (answer_read_section_table (get_row_of file table count index)))
    → (q ≡ number (answer_read_section_table (get_row_of file table count index))) ×
    (k ≡ values count_read_section_table (answer_read_section_table (get_row_of file table count index))) → (r ≡ q) × (l ≡ k)
hullsift_section_unique file table count index = same_both

pub hullsift_find_offset_unique : (file sections : List ℕ) (address : ℕ) {r q : ℕ} {l k : List ℕ}
    → (r ≡ number (answer_find_offset (find_offset_of file (read_sections_of sections) address))) ×
    (l ≡ values count_find_offset (answer_find_offset (find_offset_of file (read_sections_of sections) address)))
    → (q ≡ number (answer_find_offset (find_offset_of file (read_sections_of sections) address))) ×
    (k ≡ values count_find_offset (answer_find_offset (find_offset_of file (read_sections_of sections) address))) → (r ≡ q) × (l ≡ k)
hullsift_find_offset_unique file sections address = same_both
