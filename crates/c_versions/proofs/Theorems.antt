-- Two answers that meet the contract of an exported function are equal, and so is what they leave in lent memory.
-- Assumes nothing.
use mathlib.Core.Path.{◌≡◌}
use mathlib.Core.List.{List}
use mathlib.Core.Bool.{Bool}
use Prim.Native.Nat.{ℕ}
use Rattle.answer.proofs.Unique.{same, same_both}
use Rattle.answer.specs.Answer.{number, values}
use Rattle.verdef.specs.Verdef.{auxiliaries_of as definition_auxiliaries_of, auxiliaries_out as definition_auxiliaries_out, definitions_of, definitions_out}
use Rattle.verneed.specs.Verneed.{auxiliaries_of as need_auxiliaries_of, auxiliaries_out as need_auxiliaries_out, needs_of, needs_out}
use Rattle.version_section.specs.Answers.{answer_count_entries, count_count_entries}
use Rattle.versym.specs.Answers.{answer_read_versym, count_read_versym}
use Rattle.versym.specs.Versym.{count_of, get_at_of}

-- of an answer, its values and a lent list
same_three :
    {A B C : Type 0} {d r q : A} {m l k : B} {n v u : C}
    → (r ≡ d) × (l ≡ m) × (v ≡ n)
    → (q ≡ d) × (k ≡ m) × (u ≡ n)
    → (r ≡ q) × (l ≡ k) × (v ≡ u)
same_three e f = (same e.0 f.0, same e.1 f.1, same e.2 f.2)

pub hullsift_count_versym_unique :
    (file : List ℕ) (start : ℕ) (size : ℕ) {r q : ℕ} {l k : List ℕ}
    → (r ≡ number (answer_count_entries (count_of file start size))) ×
    (l ≡ values count_count_entries (answer_count_entries (count_of file start size)))
    → (q ≡ number (answer_count_entries (count_of file start size))) ×
    (k ≡ values count_count_entries (answer_count_entries (count_of file start size)))
    → (r ≡ q) × (l ≡ k)
hullsift_count_versym_unique file start size = same_both

pub hullsift_versym_unique :
    (file : List ℕ) (start : ℕ) (size : ℕ) (index : ℕ) (big : Bool) {r q : ℕ} {l k : List ℕ}
    → (r ≡ number (answer_read_versym (get_at_of big file start size index))) ×
    (l ≡ values count_read_versym (answer_read_versym (get_at_of big file start size index)))
    → (q ≡ number (answer_read_versym (get_at_of big file start size index))) ×
    (k ≡ values count_read_versym (answer_read_versym (get_at_of big file start size index)))
    → (r ≡ q) × (l ≡ k)
hullsift_versym_unique file start size index big = same_both

pub hullsift_verdefs_unique :
    (file : List ℕ) (start : ℕ) (size : ℕ) (stated : ℕ) (big : Bool) (list : List ℕ) {r q : ℕ} {l k : List ℕ} {v u : List ℕ}
    → (r ≡ number (answer_count_entries (definitions_of big file start size stated list))) ×
    (v ≡ values count_count_entries (answer_count_entries (definitions_of big file start size stated list))) ×
    (l ≡ definitions_out big file start size stated list)
    → (q ≡ number (answer_count_entries (definitions_of big file start size stated list))) ×
    (u ≡ values count_count_entries (answer_count_entries (definitions_of big file start size stated list))) ×
    (k ≡ definitions_out big file start size stated list)
    → (r ≡ q) × (v ≡ u) × (l ≡ k)
hullsift_verdefs_unique file start size stated big list = same_three

pub hullsift_verneeds_unique :
    (file : List ℕ) (start : ℕ) (size : ℕ) (stated : ℕ) (big : Bool) (list : List ℕ) {r q : ℕ} {l k : List ℕ} {v u : List ℕ}
    → (r ≡ number (answer_count_entries (needs_of big file start size stated list))) ×
    (v ≡ values count_count_entries (answer_count_entries (needs_of big file start size stated list))) ×
    (l ≡ needs_out big file start size stated list)
    → (q ≡ number (answer_count_entries (needs_of big file start size stated list))) ×
    (u ≡ values count_count_entries (answer_count_entries (needs_of big file start size stated list))) ×
    (k ≡ needs_out big file start size stated list)
    → (r ≡ q) × (v ≡ u) × (l ≡ k)
hullsift_verneeds_unique file start size stated big list = same_three

pub hullsift_verdauxs_unique :
    (file : List ℕ) (start : ℕ) (size : ℕ) (place : ℕ) (aux : ℕ) (cnt : ℕ) (big : Bool) (list : List ℕ) {r q : ℕ} {l k : List ℕ}
    {v u : List ℕ}
    → (r ≡ number (answer_count_entries (definition_auxiliaries_of big file start size place aux cnt list))) ×
    (v ≡ values count_count_entries (answer_count_entries (definition_auxiliaries_of big file start size place aux cnt list))) ×
    (l ≡ definition_auxiliaries_out big file start size place aux cnt list)
    → (q ≡ number (answer_count_entries (definition_auxiliaries_of big file start size place aux cnt list))) ×
    (u ≡ values count_count_entries (answer_count_entries (definition_auxiliaries_of big file start size place aux cnt list))) ×
    (k ≡ definition_auxiliaries_out big file start size place aux cnt list)
    → (r ≡ q) × (v ≡ u) × (l ≡ k)
hullsift_verdauxs_unique file start size place aux cnt big list = same_three

pub hullsift_vernauxs_unique :
    (file : List ℕ) (start : ℕ) (size : ℕ) (place : ℕ) (aux : ℕ) (cnt : ℕ) (big : Bool) (list : List ℕ) {r q : ℕ} {l k : List ℕ}
    {v u : List ℕ}
    → (r ≡ number (answer_count_entries (need_auxiliaries_of big file start size place aux cnt list))) ×
    (v ≡ values count_count_entries (answer_count_entries (need_auxiliaries_of big file start size place aux cnt list))) ×
    (l ≡ need_auxiliaries_out big file start size place aux cnt list)
    → (q ≡ number (answer_count_entries (need_auxiliaries_of big file start size place aux cnt list))) ×
    (u ≡ values count_count_entries (answer_count_entries (need_auxiliaries_of big file start size place aux cnt list))) ×
    (k ≡ need_auxiliaries_out big file start size place aux cnt list)
    → (r ≡ q) × (v ≡ u) × (l ≡ k)
hullsift_vernauxs_unique file start size place aux cnt big list = same_three
