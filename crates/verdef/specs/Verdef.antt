-- The version definitions of a file: a list of verdefs, each with a list of verdauxes (LSB Core 5.0, "Version Definitions").
-- Assumes nothing.
use Rattle.std.specs.Prelude.{Result, ℕ, ◌+◌, List, Bool}
use Rattle.answer.specs.declared.Refusal.{Refusal}
use Rattle.version_section.specs.declared.CountEntries.{CountEntries}
use Rattle.version_record.specs.declared.VersionRecord.TheVariants.{Verdef, Verdaux}
use Rattle.version_list.specs.List.{list_of, list_out}

-- 14.1, 14.7, 14.16: the list of verdefs from the section's start; a row has the place, vd_version, vd_flags, vd_ndx, vd_cnt, vd_hash,
-- vd_aux and vd_next
unfoldable pub definitions_of : Bool → List ℕ → ℕ → ℕ → ℕ → List ℕ → Result CountEntries Refusal
definitions_of big file start len stated o = list_of Verdef big file start len stated 0 o

-- 14.16, 14.17: what the caller's list `o` is then
unfoldable pub definitions_out : Bool → List ℕ → ℕ → ℕ → ℕ → List ℕ → List ℕ
definitions_out big file start len stated o = list_out Verdef big file start len stated 0 o

-- 14.12, 14.13, 14.14: the list of verdauxes from a place plus an auxiliary offset, ended by vd_cnt, each any number; a row has the place,
-- vda_name and vda_next
unfoldable pub auxiliaries_of : Bool → List ℕ → ℕ → ℕ → ℕ → ℕ → ℕ → List ℕ → Result CountEntries Refusal
auxiliaries_of big file start len place aux cnt o = list_of Verdaux big file start len cnt (place + aux) o

-- 14.16, 14.17: what the caller's list `o` is then
unfoldable pub auxiliaries_out : Bool → List ℕ → ℕ → ℕ → ℕ → ℕ → ℕ → List ℕ → List ℕ
auxiliaries_out big file start len place aux cnt o = list_out Verdaux big file start len cnt (place + aux) o
