-- What is proved of opening the exception data, for every input. That a function answers its definition is its contract (src/lib.rt).
-- Assumes nothing.
use Rattle.exception_data.specs.declared.RecordForm.{RecordForm}
use Rattle.runtime_function.specs.declared.RuntimeFunction.{RuntimeFunction}
use Rattle.std.specs.Prelude.{Result, Ok, Err, Option, Some, None, ℕ, List, ◌≡◌}
use Rattle.answer.specs.Answer.{on_ok, refuse_of, not_found, machine, number, values}
use mathlib.Core.Path.{◌≡◌, refl, sym, ap, ◌∙◌}
use mathlib.Core.List.{List}
use mathlib.Core.Bool.{Bool, true, false}
use Prim.Native.Nat.{ℕ, suc, ◌+◌, ◌*◌, ◌%◌, ◌≤◌, ◌<◌}
use native.Mathlib.Omega.{arith}
use lib.ListN.{length, take}
use lib.Dec.{eqb}
use borrow.Author.Tests.{eqb-true}
use Rattle.answer.specs.Test.{pick, must}
use Rattle.answer.specs.declared.Reason.{Reason}
use Rattle.answer.specs.declared.Refusal.{Refusal}
use Rattle.answer.proofs.Unique.{same}
use Rattle.pe_optional.specs.declared.DataDirectory.{DataDirectory}
use Rattle.pe_header.specs.Header.{open_of as open_header_of}
use Rattle.pe_header.specs.Answers.{answer_open_header}
use Rattle.pe_header.specs.declared.Header.{Header}
use Rattle.pe_header.proofs.Theorems.{cut_headers}
use Rattle.pe_mapping.specs.Mapping.{find_offset_of}
use Rattle.runtime_table.specs.Table.{place_of, runtime_at}
use Rattle.runtime_table.specs.Check.{check_of}
use Rattle.runtime_table.proofs.Laws.{lies_told, lies_there, entry_is}
use Rattle.runtime_table.proofs.Theorems.{check_told}
use Rattle.exception_data.specs.Exception.{on_directory, x64_machine, empty_of, count_of, sections_of, opened_of, open_of, get_function_of}
use Rattle.exception_data.specs.Answers.{answer_open_exception_data, count_open_exception_data, numbers_of, machine_of}
use Rattle.exception_data.specs.declared.ExceptionData.{ExceptionData}
use Rattle.exception_data.proofs.Laws.{table_in, directory_in, open_refused, open_other, open_missing, open_ordered, record_at_lem}

never : {e : ExceptionData} {k : Refusal} → ◌≡◌ {A = Result ExceptionData Refusal} (Ok e) (Err k) → ⊥
never e = let z : ◌≡◌ {A = ℕ} 0 1 = cc in omega arith

same_data : {e f : ExceptionData} → ◌≡◌ {A = Result ExceptionData Refusal} (Ok e) (Ok f) → e ≡ f
same_data e = cc

-- what an opened table says of its file
pub record Opens (s : List ℕ) (opened : ExceptionData) : Type 0 where
  pub header : Header
  pub directory : DataDirectory
  pub headers : Ok header ≡ open_header_of s
  pub machine : header.machine ≡ x64_machine
  pub named : header.exceptions ≡ Some directory
  pub here : empty_of directory ≡ false
  pub whole : directory.size % 12 ≡ 0
  pub place : Ok opened.table ≡ find_offset_of s opened.sections directory.virtual_address
  pub aligned : opened.table % 4 ≡ 0
  pub check : Ok tt ≡ check_of s opened.table opened.count
  pub value : opened ≡ opened_of header directory opened.table

-- what each check tells, where all of them accept
module _ {e : ExceptionData} where
  must_told : (t : Bool) (k : Reason) (on : Result ExceptionData Refusal) → Ok e ≡ must Err t k on → (t ≡ true) × (Ok e ≡ on)
  unfolding must
  must_told true k on f = (refl, f)
  must_told false k on f = absurd (never f)

  pick_told : (t : Bool) (k : Refusal) (on : Result ExceptionData Refusal) → Ok e ≡ pick t (Err k) on → (t ≡ false) × (Ok e ≡ on)
  pick_told true k on f = absurd (never f)
  pick_told false k on f = (refl, f)

  check_by : {x : ExceptionData} (c : Result Unit Refusal) → Ok e ≡ on_ok c Err (λ u. Ok x) → (c ≡ Ok tt) × (e ≡ x)
  check_by (Ok tt) f = (refl, same_data f)
  check_by (Err k) f = absurd (never f)

module _ (s : List ℕ) (h : Header) (d : DataDirectory) {e : ExceptionData} where
  table_told : (o : ℕ) → Ok e ≡ table_in s h d o → (o % 4 ≡ 0) × ((Ok tt ≡ check_of s o (count_of d)) × (e ≡ opened_of h d o))
  table_told o f =
      let m = must_told _ _ _ f in
      let c = check_by (check_of s o (count_of d)) m.1 in
      (eqb-true _ _ m.0, (sym c.0, c.1))

  module _ (hs : Ok h ≡ open_header_of s) (m : h.machine ≡ x64_machine) (n : h.exceptions ≡ Some d) where
    offset_by : (r : Result ℕ Refusal) → empty_of d ≡ false → d.size % 12 ≡ 0 → r ≡ find_offset_of s (sections_of h) d.virtual_address
        → Ok e ≡ on_ok r Err (λ o. table_in s h d o) → Opens s e
    offset_by (Ok o) g z q f =
        let t = table_told o f in
        let v = t.1.1 in
        record {
          header = h;
          directory = d;
          headers = hs;
          machine = m;
          named = n;
          here = g;
          whole = z;
          place = rw v q;
          aligned = rw v t.0;
          check = rw v t.1.0;
          value = rw v refl;
        }
    offset_by (Err k) g z q f = absurd (never f)

    directory_told : Ok e ≡ directory_in s h d → Opens s e
    directory_told f =
        let a = pick_told _ _ _ f in
        let b = must_told _ _ _ a.1 in
        offset_by _ a.0 (eqb-true _ _ b.0) refl b.1

exceptions_by : (s : List ℕ) (h : Header) {e : ExceptionData} (r : Option DataDirectory) → Ok h ≡ open_header_of s
    → h.machine ≡ x64_machine → h.exceptions ≡ r
    → Ok e ≡ on_directory r (Err (refuse_of not_found)) (λ d. directory_in s h d) → Opens s e
exceptions_by s h (Some d) hs m n f = directory_told s h d hs m n f
exceptions_by s h None hs m n f = absurd (never f)

header_by : (s : List ℕ) {e : ExceptionData} (r : Result Header Refusal) → r ≡ open_header_of s
    → Ok e
    ≡ on_ok r Err
    (λ h.
    must Err (eqb h.machine x64_machine) machine
    (on_directory h.exceptions (Err (refuse_of not_found)) (λ d. directory_in s h d)))
    → Opens s e
header_by s (Ok h) hs f =
    let m = must_told _ _ _ f in
    exceptions_by s h h.exceptions hs (eqb-true _ _ m.0) refl m.1
header_by s (Err k) hs f = absurd (never f)

-- What is opened passed every check, and says what the headers and the directory say.
pub open_told : (s : List ℕ) (opened : ExceptionData) → Ok opened ≡ open_of s → Opens s opened
unfolding open_of
open_told s opened f = header_by s (open_header_of s) refl f

-- What passes every check is opened.
pub told_open : (s : List ℕ) (opened : ExceptionData) → Opens s opened → Ok opened ≡ open_of s
told_open s opened o =
    ap Ok o.value
    ∙ open_ordered s refl (sym o.headers) o.machine o.named o.here o.whole refl
    (sym (o.place ∙ ap (λ (x : ExceptionData). find_offset_of s x.sections o.directory.virtual_address) o.value))
    o.aligned refl (sym (o.check ∙ ap (λ (x : ExceptionData). check_of s opened.table x.count) o.value))

-- 8.1: What the checks of the headers and of the section table refuse is refused so, whatever the machine is.
pub headers_first : (s : List ℕ) (k : Refusal) → Err k ≡ open_header_of s → Err k ≡ open_of s
headers_first s k f = open_refused s refl (sym f)

-- the number that opening answers where the headers are refused
header_number : (s : List ℕ) (n : ℕ) (r : Result Header Refusal) → r ≡ open_header_of s → number (answer_open_header r) ≡ suc n
    → number (answer_open_exception_data (open_of s)) ≡ suc n
header_number s n (Ok h) e f = absurd (omega arith)
header_number s n (Err k) e f =
    ap (λ (x : Result ExceptionData Refusal). number (answer_open_exception_data x)) (sym (headers_first s k e)) ∙ f

-- So an image, whatever its machine, that is cut before the end of its section table is 1, and not 15.
pub rows_before_machine : (s : List ℕ) (h : Header) (n : ℕ) → Ok h ≡ open_header_of s → 0 < h.number_of_sections
    → n < h.section_table + 40 * h.number_of_sections → number (answer_open_exception_data (open_of (take n s))) ≡ 1
rows_before_machine s h n e p l = header_number (take n s) 0 (open_header_of (take n s)) refl (cut_headers s h n e p l)

-- 8.2: The machine comes next: 15, whatever the directory is.
pub other_machine : (s : List ℕ) (h : Header) → Ok h ≡ open_header_of s → (h.machine ≡ x64_machine → ⊥)
    → Err (refuse_of machine) ≡ open_of s
other_machine s h f n = open_other s refl (sym f) n refl

-- 8.3: Then the directory: 10 where there is none.
pub no_directory : (s : List ℕ) (h : Header) → Ok h ≡ open_header_of s → h.machine ≡ x64_machine
    → h.exceptions ≡ None → Err (refuse_of not_found) ≡ open_of s
no_directory s h f m n = open_missing s refl (sym f) m n refl

-- An opened table.
module _ (s : List ℕ) (opened : ExceptionData) (o : Ok opened ≡ open_of s) where
  -- It is one that the check of a table accepts.
  pub opened_checked : Ok tt ≡ check_of s opened.table opened.count
  opened_checked = (open_told s opened o).check

  -- It lies in the file.
  pub opened_lies : 0 < opened.count → opened.table + 12 * opened.count ≤ length s
  opened_lies p =
      lies_told (length s) opened.table opened.count p (check_told s opened.table opened.count opened_checked).lies

  -- Its records fill the directory.
  pub opened_count : 12 * opened.count ≡ (open_told s opened o).directory.size
  opened_count =
      let w = open_told s opened o in
      omega (arith, w.whole, ap (λ (x : ExceptionData). x.count) w.value)

  -- Each of its records is there.
  pub opened_record : (i : ℕ) → i < opened.count → Ok (runtime_at s (place_of opened.table i)) ≡ get_function_of s opened i
  opened_record i l =
      let a = check_told s opened.table opened.count opened_checked in
      record_at_lem s opened i a.short l (entry_is s opened.table i (lies_there s opened.table i opened.count l a.lies))

-- Two answers that meet a promise of this crate are equal.
pub open_unique : (s : List ℕ) {r q : Result ExceptionData Refusal} → r ≡ open_of s → q ≡ open_of s → r ≡ q
open_unique s = same

pub get_function_unique : (s : List ℕ) (opened : ExceptionData) (index : ℕ) {r q : Result RuntimeFunction Refusal}
    → r ≡ get_function_of s opened index → q ≡ get_function_of s opened index → r ≡ q
get_function_unique s opened index = same

-- The answer has as many numbers as it says, zeros where it is refused.
pub open_count : (a : Result ExceptionData Refusal) → length (values count_open_exception_data (answer_open_exception_data a)) ≡ count_open_exception_data
open_count (Ok opened) = refl
open_count (Err k) = refl

-- The numbers that it stands for are fixed.
pub numbers_unique : (a : ExceptionData) {r q : List ℕ} → r ≡ numbers_of a → q ≡ numbers_of a → r ≡ q
numbers_unique a = same

-- The number of a form is fixed.
pub machine_of_unique : (form : RecordForm) {r q : ℕ} → r ≡ machine_of form → q ≡ machine_of form → r ≡ q
machine_of_unique form = same
