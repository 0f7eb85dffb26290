-- What a private function of the code answers; no other definition cites it.
-- Assumes nothing.
use Rattle.std.specs.Prelude.{Result, Err, ℕ, ◌+◌, List, [], false}
use Rattle.answer.specs.Answer.{cut_of}
use Rattle.answer.specs.declared.Refusal.{Refusal}
use Rattle.cursor.specs.Next.{taken}
use Rattle.cursor.specs.declared.Cursor.{Cursor}
use Rattle.layout.specs.Layout.{array, read_by}

-- the run of 29 numbers of two bytes from `at` on, and the cursor past them
unfoldable pub halves_at : List ℕ → ℕ → Result (List ℕ × Cursor) Refusal
halves_at s at = read_by (λ ns. taken ns (record { at = at + 58 })) (λ end. Err (cut_of end)) false (array 29 2 []) s at
