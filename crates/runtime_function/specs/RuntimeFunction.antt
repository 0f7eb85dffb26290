-- The runtime record: three addresses relative to the image, the least significant byte of each first (Microsoft, "x64 exception
-- handling", struct RUNTIME_FUNCTION).
-- Assumes nothing.
use Rattle.std.specs.Prelude.{Result, Ok, Err}
use Rattle.answer.specs.declared.Refusal.{Refusal}
use Rattle.std.specs.Prelude.{ℕ, List, [], ◌∷◌, false}
use Rattle.fields.specs.Field.{stored}
use Rattle.layout.specs.Layout.{Field, field, widths, the, reading, write_by}
use Rattle.runtime_function.specs.declared.RuntimeFunction.{RuntimeFunction}

-- 4.16: offset, width, name
abbrev pub fields : List Field
fields = field 0 4 "Function start address" ∷ field 4 4 "Function end address" ∷ field 8 4 "Unwind info address" ∷ []

abbrev pub runtime_function : List ℕ
runtime_function = widths fields

-- the numbers of the fields, as the record
abbrev pub record_of : List ℕ → RuntimeFunction
record_of ns =
    record {
      begin = the fields "Function start address" ns;
      end = the fields "Function end address" ns;
      unwind = the fields "Unwind info address" ns;
    }

-- the record, as the numbers of its fields
abbrev pub numbers_of : RuntimeFunction → List ℕ
numbers_of e = e.begin ∷ e.end ∷ e.unwind ∷ []

-- 3.6: what reading at `at` answers: the record, or 1 at the first field that is not whole
unfoldable pub read_of : List ℕ → ℕ → Result RuntimeFunction Refusal
read_of s at = reading Err false fields s at (λ ns. Ok (record_of ns))

-- 4.9: what `o` is after the record was written at `at`
abbrev pub write_out : List ℕ → ℕ → RuntimeFunction → List ℕ
write_out o at e = stored o at (write_by false runtime_function (numbers_of e))
