-- What the answer of this crate stands for, and how many numbers that is.
-- Assumes nothing.
use Rattle.std.specs.Prelude.{Result, ℕ, List, [], ◌∷◌}
use Rattle.answer.specs.Answer.{Answer, answer_of}
use Rattle.answer.specs.Bit.{bit_of}
use Rattle.answer.specs.declared.Refusal.{Refusal}
use Rattle.versym.specs.declared.Versym.{Versym}

-- 15.4: the numbers of an entry: the hidden bit, and the version
abbrev pub numbers_of : Versym → List ℕ
numbers_of e = bit_of e.hidden ∷ e.version ∷ []

abbrev pub answer_read_versym : Result Versym Refusal → Answer
answer_read_versym = answer_of numbers_of

abbrev pub count_read_versym : ℕ
count_read_versym = 2
