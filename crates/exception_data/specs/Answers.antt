-- What the answer of this crate stands for, and how many numbers that is. The numbers: the machine whose
-- form the records have, the table's offset and count, and the section table's offset, its rows and the file alignment.
-- Assumes nothing.
use Rattle.std.specs.Prelude.{Result, ℕ, List, [], ◌∷◌}
use Rattle.answer.specs.Answer.{Answer, answer_of}
use Rattle.answer.specs.declared.Refusal.{Refusal}
use Rattle.exception_data.specs.Exception.{x64_machine}
use Rattle.exception_data.specs.declared.RecordForm.{RecordForm}
use Rattle.exception_data.specs.declared.RecordForm.TheVariants.{X64}
use Rattle.exception_data.specs.declared.ExceptionData.{ExceptionData}

-- 8.10: the form of the records, as the number of its machine
abbrev pub machine_of : RecordForm → ℕ
machine_of X64 = x64_machine

abbrev pub numbers_of : ExceptionData → List ℕ
numbers_of opened =
    machine_of opened.form
    ∷ opened.table
    ∷ opened.count
    ∷ opened.sections.table
    ∷ opened.sections.count
    ∷ opened.sections.alignment
    ∷ []

abbrev pub answer_open_exception_data : Result ExceptionData Refusal → Answer
answer_open_exception_data = answer_of numbers_of

abbrev pub count_open_exception_data : ℕ
count_open_exception_data = 6
