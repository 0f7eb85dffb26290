-- The entries of a list of version records, and what a door on one answers and leaves.
-- Assumes nothing.
use Rattle.std.specs.Prelude.{Result, Ok, Err, ℕ, zero, suc, ◌+◌, List, [], ◌∷◌, ◌++◌, Bool, true, false, length, leb}
use Rattle.answer.specs.Answer.{limit, room}
use Rattle.answer.specs.Test.{pick, must, in_limit}
use Rattle.answer.specs.declared.Refusal.{Refusal}
use Rattle.fields.specs.Field.{stored}
use Rattle.layout.specs.Layout.{numbers_at}
use Rattle.version_section.specs.Section.{section_of, in_file}
use Rattle.version_section.specs.declared.CountEntries.{CountEntries}
use Rattle.version_section.specs.declared.CountEntries.TheVariants.{Whole, Cut}
use Rattle.version_record.specs.Record.{layout, onward_at_of}
use Rattle.version_record.specs.declared.VersionRecord.{VersionRecord}
use Rattle.version_record.specs.declared.Onward.{Onward}
use Rattle.version_record.specs.declared.Onward.TheVariants.{Next, Last, Bad}

-- 14.16: the row of the record at `at`: its place, counted from the section's start, then the numbers of its fields
abbrev pub row_at : VersionRecord → Bool → List ℕ → ℕ → List ℕ
row_at k big s at = at ∷ numbers_at big (layout k) s at

-- what following a list finds: its entries, and whether it ended with them or stopped at bad bytes
pub record Entries : Type 0 where
  pub rows : List (List ℕ)
  pub whole : Bool

abbrev pub ended : Entries
ended = record { rows = []; whole = true }

abbrev pub stopped : Entries
stopped = record { rows = []; whole = false }

abbrev pub entry : List ℕ → Entries → Entries
entry row w = record { rows = row ∷ w.rows; whole = w.whole }

-- 14.7, 14.9: by what is at a place: an entry and what `on` finds from its next on; a last entry; or a stop
abbrev pub follow : Onward → List ℕ → (ℕ → Entries) → Entries
follow (Next n) row on = entry row (on n)
follow Last row on = entry row ended
follow Bad row on = stopped

-- 14.7, 14.8: the list from `at` of a section's bytes: a next of 0 ends it, and so does the stated count
unfoldable pub entries_from : VersionRecord → Bool → List ℕ → ℕ → ℕ → Entries
entries_from k big s zero at = ended
entries_from k big s (suc stated) at = follow (onward_at_of k big s at) (row_at k big s at) (λ n. entries_from k big s stated (at + n))

-- 14.17: rows one after the other
abbrev pub flat : List (List ℕ) → List ℕ
flat [] = []
flat (r ∷ rs) = r ++ flat rs

-- 14.15: the number of the entries, and whether the list ended with them or stopped at bad bytes
abbrev pub total_of : Entries → CountEntries
total_of w = pick w.whole (Whole (length w.rows)) (Cut (length w.rows))

-- 14.15, 14.18: the number of the entries, with 1 where the list stopped at bad bytes; where the rows do not fit, 13 comes before that
unfoldable pub counted_of : Entries → List ℕ → Result CountEntries Refusal
counted_of w o = must Err (leb (length (flat w.rows)) (length o)) room (Ok (total_of w))

-- 14.17, 14.18: the rows from the front, the rest as it was; nothing is written where they do not fit
unfoldable pub out_of : Entries → List ℕ → List ℕ
out_of w o = stored o 0 (flat w.rows)

-- 1.4: a list may state at most 65,535 records
abbrev pub record_limit : ℕ
record_limit = 65_535

-- 14.2: the checks of a door, in their order: the length of the file (3); the stated count (3), before the bytes that it counts are
-- looked at; the section (1). Then the list is followed.
unfoldable pub opened : {A : Type 0} → (Refusal → A) → (Entries → A) → VersionRecord → Bool → List ℕ → ℕ → ℕ → ℕ → ℕ → A
opened refused found k big file start len stated at =
    in_limit refused file
    (must refused (leb stated record_limit) limit
    (in_file refused file start len
    (found (entries_from k big (section_of file start len) stated at))))

-- 14.8 to 14.18, 14.21: what a door answers
unfoldable pub list_of : VersionRecord → Bool → List ℕ → ℕ → ℕ → ℕ → ℕ → List ℕ → Result CountEntries Refusal
list_of k big file start len stated at o = opened Err (λ w. counted_of w o) k big file start len stated at

-- 2.3, 14.17, 14.18, 14.21: what the caller's list `o` is then
unfoldable pub list_out : VersionRecord → Bool → List ℕ → ℕ → ℕ → ℕ → ℕ → List ℕ → List ℕ
list_out k big file start len stated at o = opened (λ refusal. o) (λ w. out_of w o) k big file start len stated at
