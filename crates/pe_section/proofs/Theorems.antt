-- What is proved of the section table, for every input. That a function answers its definition is its contract (src/lib.rt).
-- Assumes nothing.
use Rattle.std.specs.Prelude.{Result, Ok, Err, ℕ, List, ◌≡◌}
use Rattle.answer.specs.declared.Refusal.{Refusal}
use mathlib.Core.Path.{◌≡◌, refl, ap, ◌∙◌}
use mathlib.Core.List.{List}
use mathlib.Core.Bool.{false}
use mathlib.Core.Logic.{⊎_elim}
use Prim.Native.Nat.{ℕ, ◌+◌, ◌*◌, ◌≤◌, ◌<◌}
use native.Mathlib.Omega.{arith}
use lib.Dec.{T}
use lib.ListN.{length, take, drop}
use Rattle.answer.specs.Answer.{refuse_of, limit, values}
use Rattle.answer.specs.Test.{file_limit}
use Rattle.answer.proofs.Unique.{same}
use Rattle.fields.specs.Number.{bytes_of, Bytes}
use Rattle.fields.proofs.Laws.{le_or_lt}
use Rattle.fields.proofs.Number.{bytes_read}
use Rattle.layout.specs.Layout.{placed, numbers_at}
use Rattle.pe_section.specs.Section.{name_bytes_of, fields, read_of, get_row_of, numbers_of}
use Rattle.pe_section.specs.Answers.{answer_read_section_table, count_read_section_table}
use Rattle.pe_section.specs.declared.SectionTable.{SectionTable}
use Rattle.pe_section.proofs.Laws.{row_whole, section_long, section_many, section_row}

-- Each field of the table is where the one before it ends.
pub fields_placed : T (placed 0 fields)
fields_placed = tt

-- A row that is read lies wholly in the bytes.
pub row_inside : (s : List ℕ) (at : ℕ) (h : SectionTable) → Ok h ≡ read_of s at → at + 40 ≤ length s
row_inside s at h e = (row_whole s at e refl).inside

-- The bytes of a name are the first eight of its row.
pub name_is : (s : List ℕ) (at : ℕ) (h : SectionTable) → Bytes s → Ok h ≡ read_of s at → bytes_of false 8 h.name ≡ take 8 (drop at s)
unfolding numbers_at
name_is s at h b e =
    let w = row_whole s at e refl in
    ap (λ (g : SectionTable). bytes_of false 8 g.name) w.value ∙ bytes_read false 8 s at (omega (arith, w.inside)) b

-- With 96 sections, every row is the one that is read at its place.
pub ninety_six : (s : List ℕ) (table index : ℕ) → length s ≤ file_limit → index < 96
    → read_of s (table + 40 * index) ≡ get_row_of s table 96 index
ninety_six s table index l i = section_row s table 96 index l (omega arith) i refl

-- A count of 97 is 3, whatever the file and the index.
pub ninety_seven : (s : List ℕ) (table index : ℕ) → Err (refuse_of limit) ≡ get_row_of s table 97 index
ninety_seven s table index =
    ⊎_elim
    (λ l. section_many s table 97 index l (omega arith) refl)
    (λ l. section_long s table 97 index l refl)
    (le_or_lt (length s) file_limit)

-- Two answers that meet a promise of this crate are equal.
pub name_bytes_unique : (h : SectionTable) {r q : List ℕ} → r ≡ name_bytes_of h → q ≡ name_bytes_of h → r ≡ q
name_bytes_unique h = same

pub read_unique : (s : List ℕ) (at : ℕ) {r q : Result SectionTable Refusal} → r ≡ read_of s at → q ≡ read_of s at → r ≡ q
read_unique s at = same

pub get_row_unique : (s : List ℕ) (table count index : ℕ) {r q : Result SectionTable Refusal} → r ≡ get_row_of s table count index
    → q ≡ get_row_of s table count index → r ≡ q
get_row_unique s table count index = same

-- The answer has as many numbers as it says, zeros where it is refused.
pub read_count : (a : Result SectionTable Refusal) → length (values count_read_section_table (answer_read_section_table a)) ≡ count_read_section_table
read_count (Ok h) = refl
read_count (Err k) = refl

-- The numbers that it stands for are fixed.
pub numbers_unique : (a : SectionTable) {r q : List ℕ} → r ≡ numbers_of a → q ≡ numbers_of a → r ≡ q
numbers_unique a = same
