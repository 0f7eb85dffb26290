-- What the answer of this crate stands for, and how many numbers that is. The numbers are those of the header in the order of its fields;
-- the address and size of the exception directory are zeros where it is missing.
-- Assumes nothing.
use Rattle.std.specs.Prelude.{Result, ℕ, List, [], ◌∷◌, ◌++◌}
use Rattle.answer.specs.Answer.{Answer, answer_of}
use Rattle.answer.specs.declared.Refusal.{Refusal}
use Rattle.pe_optional.specs.Optional.{magic_of}
use Rattle.pe_optional.specs.Answers.{numbers_of}
use Rattle.pe_header.specs.declared.Header.{Header}

abbrev pub header_numbers : Header → List ℕ
header_numbers h =
    h.pe_pointer
    ∷ h.machine
    ∷ h.number_of_sections
    ∷ h.optional_offset
    ∷ h.optional_size
    ∷ magic_of h.magic
    ∷ h.file_alignment
    ∷ h.number_of_directories
    ∷ numbers_of h.exceptions
    ++ (h.section_table ∷ [])

abbrev pub answer_open_header : Result Header Refusal → Answer
answer_open_header = answer_of header_numbers

abbrev pub count_open_header : ℕ
count_open_header = 11
