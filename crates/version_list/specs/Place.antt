-- Where the next record of a list is.
-- Assumes nothing.
use Rattle.std.specs.Prelude.{ℕ, ◌+◌}
use Rattle.version_record.specs.declared.Onward.{Onward}
use Rattle.version_record.specs.declared.Onward.TheVariants.{Next, Last, Bad}

-- 14.7: the place after the record at `at`, by what is there; without a next, its own
abbrev pub place_after : ℕ → Onward → ℕ
place_after at (Next n) = at + n
place_after at Last = at
place_after at Bad = at
