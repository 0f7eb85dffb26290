-- Which codes of a chain are undone at a stop.
-- Assumes nothing.
use Rattle.std.specs.Prelude.{ℕ, ◌-◌, List, [], ◌∷◌, Bool, true, leb}
use Rattle.answer.specs.Test.{pick}
use Rattle.unwind_array.specs.Arrays.{ChainCode}

-- 16.12: how far a stop is from the begin of the record that was reached; 16.14: an address below that begin is past the whole prolog
pub data Distance : Type 0 where
  at : ℕ → Distance
  whole : Distance

abbrev pub distance_of : ℕ → ℕ → Distance
distance_of address begin = pick (leb begin address) (at (address - begin)) whole

-- 16.13: whether what a code of the found info stands for has run
abbrev pub has_run : Distance → ℕ → Bool
has_run (at d) offset = leb offset d
has_run whole offset = true

-- 16.13: of the found info the codes that have run; 16.15: all codes of the infos that it is chained to
abbrev pub undone_by : Distance → ChainCode → Bool
undone_by d c = pick c.found (has_run d c.code.code_offset) true

-- 16.13 to 16.15: the codes of a chain that are undone
unfoldable pub undone_of : Distance → List ChainCode → List ChainCode
undone_of d [] = []
undone_of d (c ∷ cs) = pick (undone_by d c) (c ∷ undone_of d cs) (undone_of d cs)
