-- Two answers that meet the contract of an exported function are equal, and so is what they leave in lent memory.
-- Assumes nothing.
use mathlib.Core.Path.{◌≡◌}
use mathlib.Core.List.{List}
use Prim.Native.Nat.{ℕ}
use Rattle.answer.proofs.Unique.{same_both}
use Rattle.answer.specs.Answer.{number, values}
use Rattle.c_sections.specs.Sections.{read_sections_of}
use Rattle.runtime_function.specs.Answers.{answer_read_runtime_function, count_read_runtime_function}
use Rattle.unwind_chain.specs.Answers.{answer_count_all_codes, count_count_all_codes}
use Rattle.unwind_chain.specs.Chain.{count_all_codes_of}
use Rattle.unwind_links.specs.Answers.{answer_reach_info, count_reach_info}
use Rattle.unwind_links.specs.Links.{chained_info_of, first_info_of, record_at_of}

pub hullsift_first_info_unique :
    (file : List ℕ) (sections : List ℕ) (begin : ℕ) (end : ℕ) (unwind : ℕ) {r q : ℕ} {l k : List ℕ}
    → (r ≡ number (answer_reach_info (first_info_of file (read_sections_of sections) (record { begin = begin; end = end; unwind = unwind })))) ×
    (l ≡ values count_reach_info
    (answer_reach_info (first_info_of file (read_sections_of sections) (record { begin = begin; end = end; unwind = unwind }))))
    → (q ≡ number (answer_reach_info (first_info_of file (read_sections_of sections) (record { begin = begin; end = end; unwind = unwind })))) ×
    (k ≡ values count_reach_info
    (answer_reach_info (first_info_of file (read_sections_of sections) (record { begin = begin; end = end; unwind = unwind }))))
    → (r ≡ q) × (l ≡ k)
hullsift_first_info_unique file sections begin end unwind = same_both

pub hullsift_next_info_unique :
    (file : List ℕ) (sections : List ℕ) (links : ℕ) (begin : ℕ) (end : ℕ) (unwind : ℕ) {r q : ℕ} {l k : List ℕ}
    → (r ≡ number
    (answer_reach_info (chained_info_of file (read_sections_of sections) (record { begin = begin; end = end; unwind = unwind }) links)))
    × (l ≡ values count_reach_info
    (answer_reach_info (chained_info_of file (read_sections_of sections) (record { begin = begin; end = end; unwind = unwind }) links)))
    → (q ≡ number
    (answer_reach_info (chained_info_of file (read_sections_of sections) (record { begin = begin; end = end; unwind = unwind }) links)))
    × (k ≡ values count_reach_info
    (answer_reach_info (chained_info_of file (read_sections_of sections) (record { begin = begin; end = end; unwind = unwind }) links)))
    → (r ≡ q) × (l ≡ k)
hullsift_next_info_unique file sections links begin end unwind = same_both

pub hullsift_record_at_unique :
    (file : List ℕ) (sections : List ℕ) (address : ℕ) {r q : ℕ} {l k : List ℕ}
    → (r ≡ number (answer_read_runtime_function (record_at_of file (read_sections_of sections) address))) ×
    (l ≡ values count_read_runtime_function (answer_read_runtime_function (record_at_of file (read_sections_of sections) address)))
    → (q ≡ number (answer_read_runtime_function (record_at_of file (read_sections_of sections) address))) ×
    (k ≡ values count_read_runtime_function (answer_read_runtime_function (record_at_of file (read_sections_of sections) address)))
    → (r ≡ q) × (l ≡ k)
hullsift_record_at_unique file sections address = same_both

pub hullsift_count_all_codes_unique :
    (file : List ℕ) (sections : List ℕ) (begin : ℕ) (end : ℕ) (unwind : ℕ) {r q : ℕ} {l k : List ℕ}
    → (r ≡ number
    (answer_count_all_codes (count_all_codes_of file (read_sections_of sections) (record { begin = begin; end = end; unwind = unwind }))))
    × (l ≡ values count_count_all_codes
    (answer_count_all_codes (count_all_codes_of file (read_sections_of sections) (record { begin = begin; end = end; unwind = unwind }))))
    → (q ≡ number
    (answer_count_all_codes (count_all_codes_of file (read_sections_of sections) (record { begin = begin; end = end; unwind = unwind }))))
    × (k ≡ values count_count_all_codes
    (answer_count_all_codes (count_all_codes_of file (read_sections_of sections) (record { begin = begin; end = end; unwind = unwind }))))
    → (r ≡ q) × (l ≡ k)
hullsift_count_all_codes_unique file sections begin end unwind = same_both
