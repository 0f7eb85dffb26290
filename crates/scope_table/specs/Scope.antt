-- The C scope table, which is the data of an exception handler: a count and its entries, the least significant byte of each number first.
-- Assumes nothing.
use Rattle.std.specs.Prelude.{Result, Ok, Err, ℕ, ◌+◌, ◌*◌, List, [], ◌∷◌, false, length, leb, ltb}
use Rattle.answer.specs.Answer.{on_ok, contradiction, not_found}
use Rattle.answer.specs.declared.Refusal.{Refusal}
use Rattle.answer.specs.Test.{must}
use Rattle.fields.specs.Field.{read_of as field_of, stored}
use Rattle.layout.specs.Layout.{Field, field, widths, the, reading, write_by}
use Rattle.scope_table.specs.Answers.{numbers_of}
use Rattle.scope_table.specs.declared.ScopeTableEntry.{ScopeTableEntry}

-- 4.19: offset, width, name
abbrev pub fields : List Field
fields = field 0 4 "begin" ∷ field 4 4 "end" ∷ field 8 4 "handler" ∷ field 12 4 "target" ∷ []

abbrev pub scope_table_entry : List ℕ
scope_table_entry = widths fields

-- 13.5: the numbers of the fields, as the entry
abbrev pub entry_of : List ℕ → ScopeTableEntry
entry_of ns =
    record {
      begin = the fields "begin" ns;
      end = the fields "end" ns;
      handler = the fields "handler" ns;
      target = the fields "target" ns;
    }

-- 3.6: what reading at `at` answers: the entry, or 1 at the first field that is not whole
unfoldable pub read_of : List ℕ → ℕ → Result ScopeTableEntry Refusal
read_of s at = reading Err false fields s at (λ ns. Ok (entry_of ns))

-- 4.9: what `o` is after the entry was written at `at`
abbrev pub write_out : List ℕ → ℕ → ScopeTableEntry → List ℕ
write_out o at e = stored o at (write_by false scope_table_entry (numbers_of e))

-- 13.1, 13.3, 13.4: the number of entries of the table at `start`, whose data runs to the end of the bytes; 1 where the count is not whole, 4
-- where its entries do not fit
unfoldable pub count_from : List ℕ → ℕ → Result ℕ Refusal
count_from s start =
    field_of (λ n. must Err (leb (start + 4 + 16 * n) (length s)) contradiction (Ok n)) Err false 4 s start

-- 13.1, 13.6: the entry at an index of the table at `start`; an index at or after the count is 10
unfoldable pub entry_from : List ℕ → ℕ → ℕ → Result ScopeTableEntry Refusal
entry_from s start index =
    on_ok (count_from s start) Err (λ n. must Err (ltb index n) not_found (read_of s (start + 4 + 16 * index)))

-- 13.6: the number of entries, of data that is lent by itself
abbrev pub count_in_of : List ℕ → Result ℕ Refusal
count_in_of s = count_from s 0

-- 13.6: the entry at an index, of data that is lent by itself
abbrev pub entry_in_of : List ℕ → ℕ → Result ScopeTableEntry Refusal
entry_in_of s index = entry_from s 0 index
