-- What the answer of this crate stands for, and how many numbers that is. The numbers: the magic number, the file alignment, the number
-- of directories, and the address and size of the exception directory, zeros where it is missing.
-- Assumes nothing.
use Rattle.pe_optional.specs.declared.DataDirectory.{DataDirectory}
use Rattle.std.specs.Prelude.{Result, Option, Some, None, ℕ, List, [], ◌∷◌}
use Rattle.answer.specs.Answer.{Answer, answer_of}
use Rattle.answer.specs.declared.Refusal.{Refusal}
use Rattle.pe_optional.specs.Optional.{magic_of}
use Rattle.pe_optional.specs.declared.OptionalHeader.{OptionalHeader}

abbrev pub numbers_of : Option DataDirectory → List ℕ
numbers_of None = 0 ∷ 0 ∷ []
numbers_of (Some d) = d.virtual_address ∷ d.size ∷ []

abbrev pub header_numbers : OptionalHeader → List ℕ
header_numbers h = magic_of h.magic ∷ h.file_alignment ∷ h.number_of_directories ∷ numbers_of h.exceptions

abbrev pub answer_read_optional_header : Result OptionalHeader Refusal → Answer
answer_read_optional_header = answer_of header_numbers

abbrev pub count_read_optional_header : ℕ
count_read_optional_header = 5
