-- A yes or no as a number.
-- Assumes nothing.
use Rattle.std.specs.Prelude.{ℕ, Bool}
use Rattle.answer.specs.Test.{pick}

-- 15.4: 1 or 0
abbrev pub bit_of : Bool → ℕ
bit_of b = pick b 1 0
