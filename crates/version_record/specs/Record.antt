-- The four records of the version sections (LSB Core 5.0, "Symbol Versioning"), and what is at a place of a list of them.
-- Assumes nothing.
use Rattle.std.specs.Prelude.{Result, Err, ℕ, ◌+◌, List, [], ◌∷◌, Bool, true, length, leb, ltb, eqb}
use Rattle.answer.specs.declared.Refusal.{Refusal}
use Rattle.answer.specs.Answer.{cut_of}
use Rattle.answer.specs.Test.{pick}
use Rattle.fields.specs.Field.{stored, write_of as written_in}
use Rattle.layout.specs.Layout.{Field, field, widths, the, size, reading, numbers_at}
use Rattle.version_record.specs.declared.VersionRecord.{VersionRecord}
use Rattle.version_record.specs.declared.VersionRecord.TheVariants.{Verdef, Verdaux, Verneed, Vernaux}
use Rattle.version_record.specs.declared.Onward.{Onward}
use Rattle.version_record.specs.declared.Onward.TheVariants.{Next, Last, Bad}

-- offset, width, name
abbrev pub fields : VersionRecord → List Field
-- 4.21
fields Verdef =
    field 0 2 "vd_version"
    ∷ field 2 2 "vd_flags"
    ∷ field 4 2 "vd_ndx"
    ∷ field 6 2 "vd_cnt"
    ∷ field 8 4 "vd_hash"
    ∷ field 12 4 "vd_aux"
    ∷ field 16 4 "vd_next"
    ∷ []
-- 4.22
fields Verdaux = field 0 4 "vda_name" ∷ field 4 4 "vda_next" ∷ []
-- 4.23
fields Verneed =
    field 0 2 "vn_version"
    ∷ field 2 2 "vn_cnt"
    ∷ field 4 4 "vn_file"
    ∷ field 8 4 "vn_aux"
    ∷ field 12 4 "vn_next"
    ∷ []
-- 4.24
fields Vernaux =
    field 0 4 "vna_hash"
    ∷ field 4 2 "vna_flags"
    ∷ field 6 2 "vna_other"
    ∷ field 8 4 "vna_name"
    ∷ field 12 4 "vna_next"
    ∷ []

abbrev pub layout : VersionRecord → List ℕ
layout k = widths (fields k)

-- 14.16: how many fields a record has; its row has one number more
abbrev pub fields_of : VersionRecord → ℕ
fields_of k = length (layout k)

-- 14.7: how many bytes after its own start the next record is, the last field of each
abbrev pub next : VersionRecord → List ℕ → ℕ
next Verdef ns = the (fields Verdef) "vd_next" ns
next Verdaux ns = the (fields Verdaux) "vda_next" ns
next Verneed ns = the (fields Verneed) "vn_next" ns
next Vernaux ns = the (fields Vernaux) "vna_next" ns

-- 14.10, 14.11: whether the auxiliary offset of the record at `at` leads before the end of a section of `len` bytes; neither the version
-- nor the number of auxiliaries is looked at, and an auxiliary has no such offset
unfoldable pub aux_inside : VersionRecord → ℕ → ℕ → List ℕ → Bool
aux_inside Verdef len at ns = ltb (at + the (fields Verdef) "vd_aux" ns) len
aux_inside Verdaux len at ns = true
aux_inside Verneed len at ns = ltb (at + the (fields Verneed) "vn_aux" ns) len
aux_inside Vernaux len at ns = true

-- 14.7: a next of 0 ends the list with this record
abbrev pub onward_by : ℕ → Onward
onward_by n = pick (eqb n 0) Last (Next n)

-- 14.7, 14.9, 14.10: what is at `at` of a section's bytes: a record and the way to the next, or none, which stops the list
unfoldable pub onward_at_of : VersionRecord → Bool → List ℕ → ℕ → Onward
onward_at_of k big s at =
    reading (λ refusal. Bad) big (fields k) s at (λ ns. pick (aux_inside k (length s) at ns) (onward_by (next k ns)) Bad)

-- the record at `at` is whole
abbrev pub whole_at : VersionRecord → List ℕ → ℕ → Bool
whole_at k s at = leb (at + size (layout k)) (length s)

-- 14.20: writing its numbers into a list `o` from `base`: 1 where it is not whole, at its end, then 13 where there is no room
unfoldable pub write_of : VersionRecord → List ℕ → ℕ → List ℕ → ℕ → Result Unit Refusal
write_of k s at o base = pick (whole_at k s at) (written_in (length (layout k)) o base) (Err (cut_of (at + size (layout k))))

-- 2.3, 14.20: what the list is then
unfoldable pub write_out : VersionRecord → Bool → List ℕ → ℕ → List ℕ → ℕ → List ℕ
write_out k big s at o base = pick (whole_at k s at) (stored o base (numbers_at big (layout k) s at)) o
