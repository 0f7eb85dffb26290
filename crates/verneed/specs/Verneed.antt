-- The versions that a file needs: a list of verneeds, one for each file that it needs them of, each with a list of vernauxes (LSB Core 5.0,
-- "Version Requirements").
-- Assumes nothing.
use Rattle.std.specs.Prelude.{Result, ℕ, ◌+◌, List, Bool}
use Rattle.answer.specs.declared.Refusal.{Refusal}
use Rattle.version_section.specs.declared.CountEntries.{CountEntries}
use Rattle.version_record.specs.declared.VersionRecord.TheVariants.{Verneed, Vernaux}
use Rattle.version_list.specs.List.{list_of, list_out}

-- 14.1, 14.7, 14.16: the list of verneeds from the section's start; a row has the place, vn_version, vn_cnt, vn_file, vn_aux and vn_next
unfoldable pub needs_of : Bool → List ℕ → ℕ → ℕ → ℕ → List ℕ → Result CountEntries Refusal
needs_of big file start len stated o = list_of Verneed big file start len stated 0 o

-- 14.16, 14.17: what the caller's list `o` is then
unfoldable pub needs_out : Bool → List ℕ → ℕ → ℕ → ℕ → List ℕ → List ℕ
needs_out big file start len stated o = list_out Verneed big file start len stated 0 o

-- 14.12, 14.13, 14.14: the list of vernauxes from a place plus an auxiliary offset, ended by vn_cnt, each any number; a row has the place,
-- vna_hash, vna_flags, vna_other, vna_name and vna_next
unfoldable pub auxiliaries_of : Bool → List ℕ → ℕ → ℕ → ℕ → ℕ → ℕ → List ℕ → Result CountEntries Refusal
auxiliaries_of big file start len place aux cnt o = list_of Vernaux big file start len cnt (place + aux) o

-- 14.16, 14.17: what the caller's list `o` is then
unfoldable pub auxiliaries_out : Bool → List ℕ → ℕ → ℕ → ℕ → ℕ → ℕ → List ℕ → List ℕ
auxiliaries_out big file start len place aux cnt o = list_out Vernaux big file start len cnt (place + aux) o
