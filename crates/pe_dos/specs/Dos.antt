-- The DOS header, 64 bytes, the least significant byte of each number first.
-- Assumes nothing.
use Rattle.std.specs.Prelude.{Result, Ok, Err, ℕ, ◌+◌, List, [], ◌∷◌, ◌++◌, false, eqb}
use Rattle.answer.specs.Answer.{magic}
use Rattle.answer.specs.Test.{pick, must}
use Rattle.answer.specs.declared.Refusal.{Refusal}
use Rattle.fields.specs.Field.{write_of as written_in, stored}
use Rattle.layout.specs.Layout.{Field, field, many, widths, place, the, up_to, after, bytes_in, elements, reading, write_by}
use Rattle.pe_dos.specs.declared.DosHeader.{DosHeader}

-- 4.12: offset, width, name
abbrev pub fields : List Field
fields =
    field 0 2 "e_magic"
    ∷ field 2 2 "e_cblp"
    ∷ field 4 2 "e_cp"
    ∷ field 6 2 "e_crlc"
    ∷ field 8 2 "e_cparhdr"
    ∷ field 10 2 "e_minalloc"
    ∷ field 12 2 "e_maxalloc"
    ∷ field 14 2 "e_ss"
    ∷ field 16 2 "e_sp"
    ∷ field 18 2 "e_csum"
    ∷ field 20 2 "e_ip"
    ∷ field 22 2 "e_cs"
    ∷ field 24 2 "e_lfarlc"
    ∷ field 26 2 "e_ovno"
    ∷ many 4 (field 28 2 "e_res")
    (field 36 2 "e_oemid"
    ∷ field 38 2 "e_oeminfo"
    ∷ many 10 (field 40 2 "e_res2")
    (field 60 4 "e_lfanew"
    ∷ []))

abbrev pub dos_header : List ℕ
dos_header = widths fields

-- 4.12: the numbers of the fields, as the header
abbrev pub header_of : List ℕ → DosHeader
header_of ns =
    record {
      signature = the fields "e_magic" ns;
      bytes_on_last_page = the fields "e_cblp" ns;
      pages_in_file = the fields "e_cp" ns;
      relocations = the fields "e_crlc" ns;
      size_of_header_in_paragraphs = the fields "e_cparhdr" ns;
      minimum_extra_paragraphs_needed = the fields "e_minalloc" ns;
      maximum_extra_paragraphs_needed = the fields "e_maxalloc" ns;
      initial_relative_ss = the fields "e_ss" ns;
      initial_sp = the fields "e_sp" ns;
      checksum = the fields "e_csum" ns;
      initial_ip = the fields "e_ip" ns;
      initial_relative_cs = the fields "e_cs" ns;
      file_address_of_relocation_table = the fields "e_lfarlc" ns;
      overlay_number = the fields "e_ovno" ns;
      reserved = elements 4 (place "e_res" fields) ns [];
      oem_id = the fields "e_oemid" ns;
      oem_info = the fields "e_oeminfo" ns;
      reserved2 = elements 10 (place "e_res2" fields) ns [];
      pe_pointer = the fields "e_lfanew" ns;
    }

-- the header, as the numbers of its fields
abbrev pub numbers_of : DosHeader → List ℕ
numbers_of h =
    h.signature
    ∷ h.bytes_on_last_page
    ∷ h.pages_in_file
    ∷ h.relocations
    ∷ h.size_of_header_in_paragraphs
    ∷ h.minimum_extra_paragraphs_needed
    ∷ h.maximum_extra_paragraphs_needed
    ∷ h.initial_relative_ss
    ∷ h.initial_sp
    ∷ h.checksum
    ∷ h.initial_ip
    ∷ h.initial_relative_cs
    ∷ h.file_address_of_relocation_table
    ∷ h.overlay_number
    ∷ elements 4 0 h.reserved
    (h.oem_id
    ∷ h.oem_info
    ∷ elements 10 0 h.reserved2 (h.pe_pointer ∷ []))

-- 6.1: the number of the first field
abbrev pub dos_magic : ℕ
dos_magic = 0x5A4D

-- 6.17: a header that is read
abbrev pub whole : List ℕ → Result DosHeader Refusal
whole ns = Ok (header_of ns)

-- the signature, and the fields after it
abbrev pub start : List Field
start = up_to "e_magic" fields

abbrev pub rest : List Field
rest = after "e_magic" fields

-- 3.6, 6.17: what reading the header at `at` answers: the header, or 1 at the first field that is not whole
unfoldable pub read_of : List ℕ → ℕ → Result DosHeader Refusal
read_of s at =
    reading Err false start s at
    (λ ms.
    -- 6.1: another signature is 2, before the fields after it are read
    must Err (eqb (the fields "e_magic" ms) dos_magic) magic
    (reading Err false rest s (at + bytes_in start) (λ ns. whole (ms ++ ns))))

-- 6.18: what writing a header answers: another signature is 2, before there is no room (4.9: 13)
unfoldable pub write_of : List ℕ → ℕ → DosHeader → Result Unit Refusal
write_of o at h = must Err (eqb h.signature dos_magic) magic (written_in 64 o at)

-- 4.9, 6.18: what `o` is after the header was written at `at`: unchanged where it is refused
unfoldable pub write_out : List ℕ → ℕ → DosHeader → List ℕ
write_out o at h = pick (eqb h.signature dos_magic) (stored o at (write_by false dos_header (numbers_of h))) o
