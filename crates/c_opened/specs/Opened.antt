-- Opened exception data as a C caller states it: six numbers.
-- Assumes nothing.
use Rattle.std.specs.Prelude.{Result, Ok, Err, ℕ, List, get_or, eqb}
use Rattle.answer.specs.declared.Refusal.{Refusal}
use Rattle.answer.specs.Answer.{machine}
use Rattle.answer.specs.Test.{must}
use Rattle.exception_data.specs.Exception.{x64_machine}
use Rattle.exception_data.specs.declared.RecordForm.TheVariants.{X64}
use Rattle.exception_data.specs.declared.ExceptionData.{ExceptionData}
use Rattle.c_sections.specs.Sections.{small_of}

-- 8.10: the table's offset and count, and what mapping needs
abbrev pub stated_data : List ℕ → ExceptionData
stated_data ns =
    record {
      form = X64;
      table = get_or ns 1 0;
      count = get_or ns 2 0;
      sections = record { table = get_or ns 3 0; count = get_or ns 4 0; alignment = small_of (get_or ns 5 0) };
    }

-- 15.8: a machine other than 0x8664 is refused with 15
unfoldable pub read_opened_of : List ℕ → Result ExceptionData Refusal
read_opened_of ns = must Err (eqb (get_or ns 0 0) x64_machine) machine (Ok (stated_data ns))
