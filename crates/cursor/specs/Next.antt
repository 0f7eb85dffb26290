-- What reading a number at a cursor answers: the number with the cursor after it, or the refusal of the field.
-- Assumes nothing.
use Rattle.std.specs.Prelude.{ℕ, ◌+◌, List, Bool, Result, Ok}
use Rattle.answer.specs.declared.Refusal.{Refusal}
use Rattle.fields.specs.Field.{read_of}
use Rattle.cursor.specs.declared.Cursor.{Cursor}

-- 4.6: the cursor at that place
abbrev pub new_of : ℕ → Cursor
new_of at = record { at = at }

-- 4.6: the field of `w` bytes at `at`, and the cursor at `at + w`
unfoldable pub next_of : {A : Type 0} → (ℕ → Cursor → A) → (Refusal → A) → Bool → ℕ → List ℕ → ℕ → A
next_of taken refused big w s at = read_of (λ n. taken n (record { at = at + w })) refused big w s at

-- a number and the cursor after it
abbrev pub taken : {A : Type 0} → A → Cursor → Result (A × Cursor) Refusal
taken n k = Ok (n, k)
