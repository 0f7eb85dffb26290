-- The section table as a C caller states it: three numbers.
-- Assumes nothing.
use Rattle.std.specs.Prelude.{ℕ, List, get_or, ltb}
use Rattle.answer.specs.Test.{pick}
use Rattle.pe_mapping.specs.declared.Sections.{Sections}

-- 15.8: a number of 32 bits as it is; 0, which maps nothing, for a larger one
abbrev pub small_of : ℕ → ℕ
small_of n = pick (ltb n (0x1_0000_0000)) n 0

-- 7.4, 15.8: table, count, alignment
abbrev pub read_sections_of : List ℕ → Sections
read_sections_of ns = record { table = get_or ns 0 0; count = get_or ns 1 0; alignment = small_of (get_or ns 2 0) }
