-- What is proved of a section of a file, and of the answer of a count.
-- Assumes nothing.
use Rattle.std.specs.Prelude.{Result, Ok, Err}
use Rattle.std.specs.Borrow.{Bor}
use mathlib.Core.Path.{◌≡◌, refl, ap, ◌∙◌}
use mathlib.Core.List.{List}
use Prim.Native.Nat.{ℕ, ◌+◌, ◌<◌}
use borrow.Author.Tests.{leb-true, lt-leb}
use lib.ListN.{length}
use Rattle.answer.specs.Answer.{values, cut_of}
use Rattle.answer.proofs.Unique.{same}
use Rattle.answer.specs.declared.Refusal.{Refusal}
use Rattle.version_section.specs.Section.{section_of, lent_of}
use Rattle.version_section.proofs.Laws.{length_section, section_found, section_past}
use Rattle.version_section.specs.Answers.{answer_count_entries, count_count_entries, entries_of}
use Rattle.version_section.specs.declared.CountEntries.{CountEntries}
use Rattle.version_section.specs.declared.CountEntries.TheVariants.{Whole, Cut}

-- The answer has as many numbers as it says, zeros where it is refused.
pub count_entries_count : (a : Result CountEntries Refusal) → length (values count_count_entries (answer_count_entries a)) ≡ count_count_entries
count_entries_count (Ok (Whole n)) = refl
count_entries_count (Ok (Cut n)) = refl
count_entries_count (Err k) = refl

-- A section that lies in the file is lent, and is its bytes..
pub section_lent : (file : Bor (List ℕ)) (start size : ℕ) (part : Bor (List ℕ)) → Ok part ≡ lent_of file start size
    → (part.now ≡ section_of file.now start size) × (length part.now ≡ size)
section_lent file start size part e =
    let h = section_found file start size e refl in
    (h.1, ap length h.1 ∙ length_section file.now start size (leb-true _ _ h.0))

-- ..and one that reaches past it is refused at its end.
pub section_refused : (file : Bor (List ℕ)) (start size : ℕ) → length file.now < start + size
    → Err (cut_of (start + size)) ≡ lent_of file start size
section_refused file start size h = section_past file.now start size Err _ (lt-leb (start + size) (length file.now) h) refl

-- Two answers that meet a promise of this crate are equal.
pub section_unique : (file : Bor (List ℕ)) (start size : ℕ) {r q : Result (Bor (List ℕ)) Refusal} → r ≡ lent_of file start size
    → q ≡ lent_of file start size → r ≡ q
section_unique file start size = same

pub entries_unique : (c : CountEntries) {r q : ℕ} → r ≡ entries_of c → q ≡ entries_of c → r ≡ q
entries_unique c = same
