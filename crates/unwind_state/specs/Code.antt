-- The word at an address, by what the code is lent.
-- Assumes nothing.
use Rattle.std.specs.Prelude.{Option, ℕ, List}
use Rattle.unwind_state.specs.State.{word_at}

-- 16.5 to 16.7: the word at an address, of stack words the first of which is at `base`
abbrev pub word_at_of : List ℕ → ℕ → ℕ → Option ℕ
word_at_of words base a = word_at (record { base = base; words = words }) a
