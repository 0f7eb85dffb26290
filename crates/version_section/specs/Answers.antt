-- What the answer of a count stands for, and how many numbers that is.
-- Assumes nothing.
use Rattle.std.specs.Prelude.{Result, Ok, Err, ℕ, [], ◌∷◌}
use Rattle.answer.specs.Answer.{Answer, accepted, partly, refused}
use Rattle.answer.specs.declared.Refusal.{Refusal}
use Rattle.version_section.specs.declared.CountEntries.{CountEntries}
use Rattle.version_section.specs.declared.CountEntries.TheVariants.{Whole, Cut}

-- 14.15: entries before bad bytes are the answer 1 with their number, which is no refusal
abbrev pub answer_count_entries : Result CountEntries Refusal → Answer
answer_count_entries (Ok (Whole n)) = accepted (n ∷ [])
answer_count_entries (Ok (Cut n)) = partly (n ∷ [])
answer_count_entries (Err k) = refused k

abbrev pub count_count_entries : ℕ
count_count_entries = 1

-- 14.15: how many entries there are, with bad bytes after them or without
abbrev pub entries_of : CountEntries → ℕ
entries_of (Whole n) = n
entries_of (Cut n) = n
