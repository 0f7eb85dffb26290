-- A version section, as a caller states it: a part of the file by its start and size.
-- Assumes nothing.
use Rattle.std.specs.Prelude.{Result, Ok, Err, ℕ, ◌+◌, List, length, take, drop, leb}
use Rattle.std.specs.Borrow.{Bor}
use Rattle.answer.specs.Answer.{cut_of}
use Rattle.answer.specs.Test.{pick}
use Rattle.answer.specs.declared.Refusal.{Refusal}

-- 14.1: the `size` bytes of a file from `start`
unfoldable pub section_of : List ℕ → ℕ → ℕ → List ℕ
section_of file start size = take size (drop start file)

-- 14.2: goes on where the section lies in the file, to its very end at most; else it is refused with 1, at the section's end
unfoldable pub in_file : {A : Type 0} → (Refusal → A) → List ℕ → ℕ → ℕ → A → A
in_file refusal file start size on = pick (leb (start + size) (length file)) on (refusal (cut_of (start + size)))

-- 14.2: the section of a lent file: its bytes where they are, from where the file is
abbrev pub lent_of : Bor (List ℕ) → ℕ → ℕ → Result (Bor (List ℕ)) Refusal
lent_of file start size =
    in_file Err file.now start size
    (Ok (record { ref_ptr = (file.ref_ptr.0, file.ref_ptr.1 + start); now = section_of file.now start size }))
