-- Two answers that meet a promise of this crate are equal.
-- Assumes nothing.
use Rattle.std.proofs.Common.{◌≡◌, ℕ, List, Bool, false, Result, Err}
use Rattle.answer.proofs.Unique.{same}
use Rattle.answer.specs.declared.Refusal.{Refusal}
use Rattle.cursor.specs.Next.{new_of, next_of, taken}
use Rattle.cursor.specs.declared.Cursor.{Cursor}

pub new_unique : (at : ℕ) {r q : Cursor} → r ≡ new_of at → q ≡ new_of at → r ≡ q
new_unique at = same

-- at every width
pub next_unique : {A : Type 0} (of : ℕ → A) (w : ℕ) (s : List ℕ) (at : ℕ) (big : Bool) {r q : Result (A × Cursor) Refusal}
    → r ≡ next_of (λ n k. taken (of n) k) Err big w s at → q ≡ next_of (λ n k. taken (of n) k) Err big w s at → r ≡ q
next_unique of w s at big = same

-- of a number, at each width
pub next_u8_unique : (s : List ℕ) (at : ℕ) {r q : Result (ℕ × Cursor) Refusal} → r ≡ next_of taken Err false 1 s at
    → q ≡ next_of taken Err false 1 s at → r ≡ q
next_u8_unique s at = same

pub next_u16_unique : (s : List ℕ) (at : ℕ) (big : Bool) {r q : Result (ℕ × Cursor) Refusal} → r ≡ next_of taken Err big 2 s at
    → q ≡ next_of taken Err big 2 s at → r ≡ q
next_u16_unique s at big = same

pub next_u32_unique : (s : List ℕ) (at : ℕ) (big : Bool) {r q : Result (ℕ × Cursor) Refusal} → r ≡ next_of taken Err big 4 s at
    → q ≡ next_of taken Err big 4 s at → r ≡ q
next_u32_unique s at big = same

pub next_u64_unique : (s : List ℕ) (at : ℕ) (big : Bool) {r q : Result (ℕ × Cursor) Refusal} → r ≡ next_of taken Err big 8 s at
    → q ≡ next_of taken Err big 8 s at → r ≡ q
next_u64_unique s at big = same
