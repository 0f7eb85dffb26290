-- The laws of opening and of the record at an index, a law for each outcome: what the proofs of the functions cite.
-- Assumes nothing.
use Rattle.runtime_function.specs.declared.RuntimeFunction.{RuntimeFunction}
use Rattle.std.specs.Prelude.{Result, Ok, Err, Option, Some, None, ℕ}
use Rattle.answer.specs.Answer.{on_ok, refuse_of, limit, contradiction, no_section, not_found, machine}
use mathlib.Core.Path.{◌≡◌, sym, ap, ◌∙◌}
use mathlib.Core.List.{List}
use mathlib.Core.Bool.{true, false}
use Prim.Native.Nat.{ℕ, ◌%◌, ◌≤◌, ◌<◌}
use lib.ListN.{length}
use lib.Dec.{eqb}
use borrow.Author.Tests.{le-leb, lt-leb, lt-ltb, le-ltb, eq-eqb, ne_eqb}
use Rattle.answer.specs.Test.{pick, must, file_limit}
use Rattle.answer.specs.declared.Refusal.{Refusal}
use Rattle.answer.proofs.Laws.{must_on, must_off}
use Rattle.pe_optional.specs.declared.DataDirectory.{DataDirectory}
use Rattle.pe_header.specs.Header.{open_of as open_header_of}
use Rattle.pe_header.specs.declared.Header.{Header}
use Rattle.pe_mapping.specs.Mapping.{find_offset_of}
use Rattle.runtime_table.specs.Table.{get_entry_of}
use Rattle.runtime_table.specs.Check.{check_of}
use Rattle.exception_data.specs.Exception.{on_directory, x64_machine, empty_of, count_of, sections_of, opened_of, open_of, get_function_of}
use Rattle.exception_data.specs.declared.ExceptionData.{ExceptionData}

-- the definition from where the directory is mapped to an offset
abbrev pub table_in : List ℕ → Header → DataDirectory → ℕ → Result ExceptionData Refusal
table_in s h d offset =
    must Err (eqb (offset % 4) 0) no_section (on_ok (check_of s offset (count_of d)) Err (λ u. Ok (opened_of h d offset)))

-- and from where there is a directory
abbrev pub directory_in : List ℕ → Header → DataDirectory → Result ExceptionData Refusal
directory_in s h d =
    pick (empty_of d)
    (Err (refuse_of not_found))
    (must Err (eqb (d.size % 12) 0) contradiction
    (on_ok (find_offset_of s (sections_of h) d.virtual_address) Err (λ offset. table_in s h d offset)))

-- The table that a directory names.
module _ (s : List ℕ) (h : Header) (d : DataDirectory) (o : ℕ) where
  table_unaligned : {q : Refusal} → (o % 4 ≡ 0 → ⊥) → q ≡ refuse_of no_section → Err q ≡ table_in s h d o
  table_unaligned n e = must_off Err _ _ _ (ne_eqb (o % 4) 0 n) e

  module _ (a : o % 4 ≡ 0) {r : Result Unit Refusal} (e : r ≡ check_of s o (count_of d)) where
    table_refused : {k : Refusal} → r ≡ Err k → Err k ≡ table_in s h d o
    table_refused f = must_on Err _ _ _ (eq-eqb (o % 4) 0 a) (rw (← e, f))

    table_ordered : r ≡ Ok tt → Ok (opened_of h d o) ≡ table_in s h d o
    table_ordered f = must_on Err _ _ _ (eq-eqb (o % 4) 0 a) (rw (← e, f))

-- Opening.
module _ (s : List ℕ) {r : Result Header Refusal} (e : r ≡ open_header_of s) where
  -- the headers are refused
  pub open_refused : {k : Refusal} → r ≡ Err k → Err k ≡ open_of s
  unfolding open_of
  open_refused f = rw (← e, f)

  module _ {h : Header} (f : r ≡ Ok h) where
    -- another machine
    pub open_other : {q : Refusal} → (h.machine ≡ x64_machine → ⊥) → q ≡ refuse_of machine → Err q ≡ open_of s
    unfolding open_of
    open_other n g = rw (← e, f) (must_off Err _ _ _ (ne_eqb h.machine x64_machine n) g)

    module _ (m : h.machine ≡ x64_machine) where
      open_by : {x : Result ExceptionData Refusal} → x ≡ on_directory h.exceptions (Err (refuse_of not_found)) (λ d. directory_in s h d)
          → x ≡ open_of s
      unfolding open_of
      open_by k = rw (← e, f) (must_on Err _ _ _ (eq-eqb h.machine x64_machine m) k)

      -- no directory
      pub open_missing : {q : Refusal} → h.exceptions ≡ None → q ≡ refuse_of not_found → Err q ≡ open_of s
      open_missing g k = open_by (rw (g, k))

      module _ {d : DataDirectory} (g : h.exceptions ≡ Some d) where
        open_at : {x : Result ExceptionData Refusal} → x ≡ directory_in s h d → x ≡ open_of s
        open_at k =
            open_by (k ∙ ap (λ (z : Option DataDirectory). on_directory z (Err (refuse_of not_found)) (λ d. directory_in s h d)) (sym g))

        pub open_empty : {q : Refusal} → empty_of d ≡ true → q ≡ refuse_of not_found → Err q ≡ open_of s
        open_empty t k = open_at (rw (t, k))

        module _ (t : empty_of d ≡ false) where
          pub open_size : {q : Refusal} → (d.size % 12 ≡ 0 → ⊥) → q ≡ refuse_of contradiction → Err q ≡ open_of s
          open_size n k = open_at (rw t (must_off Err _ _ _ (ne_eqb (d.size % 12) 0 n) k))

          module _ (z : d.size % 12 ≡ 0) {p : Result ℕ Refusal} (u : p ≡ find_offset_of s (sections_of h) d.virtual_address) where
            open_sized : {x : Result ExceptionData Refusal} → x ≡ on_ok p Err (λ o. table_in s h d o) → x ≡ open_of s
            open_sized k = open_at (rw t (must_on Err _ _ _ (eq-eqb (d.size % 12) 0 z) (rw (← u) k)))

            pub open_unmapped : {k : Refusal} → p ≡ Err k → Err k ≡ open_of s
            open_unmapped v = open_sized (rw v)

            module _ {o : ℕ} (v : p ≡ Ok o) where
              open_mapped : {x : Result ExceptionData Refusal} → x ≡ table_in s h d o → x ≡ open_of s
              open_mapped k = open_sized (k ∙ ap (λ (y : Result ℕ Refusal). on_ok y Err (λ o. table_in s h d o)) (sym v))

              pub open_unaligned : {q : Refusal} → (o % 4 ≡ 0 → ⊥) → q ≡ refuse_of no_section → Err q ≡ open_of s
              open_unaligned n k = open_mapped (table_unaligned s h d o n k)

              module _ (a : o % 4 ≡ 0) {c : Result Unit Refusal} (w : c ≡ check_of s o (count_of d)) where
                pub open_unchecked : {k : Refusal} → c ≡ Err k → Err k ≡ open_of s
                open_unchecked x = open_mapped (table_refused s h d o a w x)

                pub open_ordered : c ≡ Ok tt → Ok (opened_of h d o) ≡ open_of s
                open_ordered x = open_mapped (table_ordered s h d o a w x)

-- The record at an index.
module _ (s : List ℕ) (opened : ExceptionData) (index : ℕ) where
  pub record_long : {q : Refusal} → file_limit < length s → q ≡ refuse_of limit → Err q ≡ get_function_of s opened index
  unfolding get_function_of
  record_long l e = must_off Err _ _ _ (lt-leb _ _ l) e

  module _ (l : length s ≤ file_limit) where
    pub record_none : {q : Refusal} → opened.count ≤ index → q ≡ refuse_of not_found → Err q ≡ get_function_of s opened index
    unfolding get_function_of
    record_none i e = must_on Err _ _ _ (le-leb _ _ l) (must_off Err _ _ _ (le-ltb _ _ i) e)

    pub record_at_lem : {x : Result RuntimeFunction Refusal} → index < opened.count → x ≡ get_entry_of s opened.table index
        → x ≡ get_function_of s opened index
    unfolding get_function_of
    record_at_lem i e = must_on Err _ _ _ (le-leb _ _ l) (must_on Err _ _ _ (lt-ltb _ _ i) e)
