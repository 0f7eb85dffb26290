-- The tests that definitions go by. A definition names its checks in the order in which they are made: each either goes on or
-- refuses for its reason.
-- Assumes nothing.
use Rattle.std.specs.Prelude.{ℕ, List, Bool, true, false, length, leb}
use Rattle.answer.specs.declared.Reason.{Reason}
use Rattle.answer.specs.declared.Refusal.{Refusal}
use Rattle.answer.specs.Answer.{refuse_of, limit}

abbrev pub pick : {A : Type 0} → Bool → A → A → A
pick true a b = a
pick false a b = b

-- goes on where the test holds, else refuses for the reason
unfoldable pub must : {A : Type 0} → (Refusal → A) → Bool → Reason → A → A
must refusal test why on = pick test on (refusal (refuse_of why))

-- 1.1: a file has at most 268,435,456 bytes
abbrev pub file_limit : ℕ
file_limit = 268_435_456

-- 3.1: the file's length comes before every other check
abbrev pub in_limit : {A : Type 0} → (Refusal → A) → List ℕ → A → A
in_limit refusal s on = must refusal (leb (length s) file_limit) limit on
