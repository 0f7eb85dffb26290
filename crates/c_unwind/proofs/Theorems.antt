-- Two answers that meet the contract of an exported function are equal, and so is what they leave in lent memory.
-- Assumes nothing.
use mathlib.Core.Path.{◌≡◌}
use mathlib.Core.List.{List}
use Prim.Native.Nat.{ℕ}
use Rattle.answer.proofs.Unique.{same, same_both}
use Rattle.answer.specs.Answer.{number, values}
use Rattle.unwind_codes.specs.Answers.{answer_check_info, answer_read_code, count_check_info, count_read_code}
use Rattle.unwind_codes.specs.Codes.{check_info_of, read_code_of}
use Rattle.unwind_info.specs.Answers.{answer_read_info, count_read_info}
use Rattle.unwind_info.specs.Unwind.{read_info_of}
use Rattle.unwind_operation.specs.Names.{name_of}

pub hullsift_read_info_unique :
    (file : List ℕ) (at : ℕ) {r q : ℕ} {l k : List ℕ}
    → (r ≡ number (answer_read_info (read_info_of file at))) × (l ≡ values count_read_info (answer_read_info (read_info_of file at)))
    → (q ≡ number (answer_read_info (read_info_of file at))) × (k ≡ values count_read_info (answer_read_info (read_info_of file at)))
    → (r ≡ q) × (l ≡ k)
hullsift_read_info_unique file at = same_both

pub hullsift_check_info_unique :
    (file : List ℕ) (at : ℕ) {r q : ℕ} {l k : List ℕ}
    → (r ≡ number (answer_check_info (check_info_of file at))) × (l ≡ values count_check_info (answer_check_info (check_info_of file at)))
    → (q ≡ number (answer_check_info (check_info_of file at))) × (k ≡ values count_check_info (answer_check_info (check_info_of file at)))
    → (r ≡ q) × (l ≡ k)
hullsift_check_info_unique file at = same_both

pub hullsift_read_code_unique :
    (file : List ℕ) (at : ℕ) (index : ℕ) {r q : ℕ} {l k : List ℕ}
    → (r ≡ number (answer_read_code (read_code_of file at index))) × (l ≡ values count_read_code (answer_read_code (read_code_of file at index)))
    → (q ≡ number (answer_read_code (read_code_of file at index))) × (k ≡ values count_read_code (answer_read_code (read_code_of file at index)))
    → (r ≡ q) × (l ≡ k)
hullsift_read_code_unique file at index = same_both

pub hullsift_register_name_unique :
    (number : ℕ) {l k : List ℕ}
    → l ≡ name_of number
    → k ≡ name_of number
    → l ≡ k
hullsift_register_name_unique number = same
