-- What is proved of the optional header, for every input. That `read` answers its definition is its contract (src/lib.rt). Which
-- answer is given when is in `Order`: `magic_short`, `magic_wrong` and `magic_outside` at the magic, then `stops_alignment`,
-- `stops_count`, `stops_address` and `stops_size`.
-- Assumes nothing.
use Rattle.pe_optional.specs.declared.DataDirectory.{DataDirectory}
use Rattle.std.specs.Prelude.{Result, Ok, Err, Option, Some, None, ℕ, List, ◌≡◌}
use Rattle.answer.specs.declared.Refusal.{Refusal}
use mathlib.Core.Path.{◌≡◌, refl}
use mathlib.Core.List.{List}
use Prim.Native.Nat.{ℕ}
use lib.ListN.{length}
use Rattle.answer.specs.Answer.{values}
use Rattle.answer.proofs.Unique.{same}
use Rattle.pe_optional.specs.Optional.{magic_named, magic_of, read_of, header_of}
use Rattle.pe_optional.specs.Answers.{answer_read_optional_header, count_read_optional_header, header_numbers}
use Rattle.pe_optional.specs.declared.OptionalMagic.{OptionalMagic}
use Rattle.pe_optional.specs.declared.OptionalHeader.{OptionalHeader}
use Rattle.pe_optional.proofs.Order.{Accepted, accepted_says}

-- The values of an accepted header are the numbers at their offsets: the magic at 0, the file alignment at 36, the number of directories
-- at 92 or 108, and the exception directory at 120 and 124 or at 136 and 140; all of them are there and inside the stated size.
pub read_says : (s : List ℕ) (at size : ℕ) (h : OptionalHeader) → Ok h ≡ read_of s at size → Accepted s at size h
read_says s at size h e = accepted_says s at size e

-- Two answers that meet the promise of this crate are equal.
pub read_unique : (s : List ℕ) (at size : ℕ) {r q : Result OptionalHeader Refusal} → r ≡ read_of s at size → q ≡ read_of s at size → r ≡ q
read_unique s at size = same

-- The answer has as many numbers as it says, zeros where it is refused.
by_directory : (m : OptionalMagic) (alignment count : ℕ) (d : Option DataDirectory)
    → length (values count_read_optional_header (answer_read_optional_header (Ok (header_of m alignment count d)))) ≡ count_read_optional_header
by_directory m alignment count None = refl
by_directory m alignment count (Some d) = refl

pub read_count : (a : Result OptionalHeader Refusal)
    → length (values count_read_optional_header (answer_read_optional_header a)) ≡ count_read_optional_header
read_count (Ok h) = by_directory h.magic h.file_alignment h.number_of_directories h.exceptions
read_count (Err k) = refl

-- The numbers that it stands for are fixed.
pub numbers_unique : (a : OptionalHeader) {r q : List ℕ} → r ≡ header_numbers a → q ≡ header_numbers a → r ≡ q
numbers_unique a = same

-- The form of a magic number, and the number of a form, are fixed.
pub magic_named_unique : (n : ℕ) {r q : Result OptionalMagic Refusal} → r ≡ magic_named n → q ≡ magic_named n → r ≡ q
magic_named_unique n = same

pub magic_of_unique : (m : OptionalMagic) {r q : ℕ} → r ≡ magic_of m → q ≡ magic_of m → r ≡ q
magic_of_unique m = same
