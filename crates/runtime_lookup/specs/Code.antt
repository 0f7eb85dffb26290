-- How the code writes down a search, and what it promises of one. The contracts of private functions cite this; no definition does.
-- Assumes nothing.
use Rattle.std.specs.Prelude.{Option, Some, None, ℕ, ◌≤◌, ◌≡◌, List}
use Rattle.runtime_table.specs.Table.{table_of}
use Rattle.runtime_lookup.specs.Halving.{Ending, Holds, Gone, Nothing, Halved, halving}
use Rattle.runtime_lookup.specs.Lookup.{read_limit}
use Rattle.runtime_lookup.specs.declared.Search.{Search}

-- the code reads the record again where a search stopped, so it keeps the index alone
abbrev pub end_of : Ending → Option ℕ
end_of (Holds i) = Some i
end_of (Gone i) = Some i
end_of Nothing = None

abbrev pub search_of : Halved → Search
search_of h = record { end = end_of h.ending; reads = h.reads }

-- a search that finds reads a record
abbrev pub Looked : Ending → ℕ → Type 0
Looked (Holds i) n = 1 ≤ n
Looked (Gone i) n = Unit
Looked Nothing n = Unit

-- what every search promises, whatever records it looks at: it ends as halving does, and reads at most 26 records, however it ends
pub record Searches (s : List ℕ) (table count a : ℕ) (h : Search) : Type 0 where
  pub same : h.end ≡ end_of (halving (table_of s table) a count).ending
  pub some : Looked (halving (table_of s table) a count).ending h.reads
  pub few : h.reads ≤ read_limit
