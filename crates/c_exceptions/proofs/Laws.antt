-- What proofs cite of a lookup: its number and its values but for the count of reads, from the answer that has it.
-- Assumes nothing.
use Rattle.runtime_lookup.specs.declared.Holder.{Holder}
use Rattle.std.specs.Prelude.{Result, Ok, Err}
use Rattle.answer.specs.declared.Refusal.{Refusal}
use mathlib.Core.Path.{◌≡◌, refl, ap, ◌∙◌}
use mathlib.Core.List.{List}
use Prim.Native.Nat.{ℕ}
use lib.ListN.{get_or, take}
use Rattle.answer.specs.Answer.{number, values}
use Rattle.runtime_lookup.specs.Answers.{answer_find_function, answer_check_and_find}
use Rattle.runtime_lookup.specs.Lookup.{uncounted, CountedReads}
use Rattle.runtime_lookup.specs.declared.Found.{Found}
use Rattle.c_exceptions.specs.Stated.{Reads}

number_kept : (a : Result Found Refusal) → number (answer_find_function a) ≡ number (answer_check_and_find (uncounted a))
number_kept (Ok a) = refl
number_kept (Err k) = refl

values_kept : (a : Result Found Refusal) → take 4 (values 5 (answer_find_function a)) ≡ values 4 (answer_check_and_find (uncounted a))
values_kept (Ok a) = refl
values_kept (Err k) = refl

reads_kept : (a : Result Found Refusal) → CountedReads a → Reads (uncounted a) (get_or (values 5 (answer_find_function a)) 4 0)
reads_kept (Ok a) e = e
reads_kept (Err k) e = refl

pub told_counted : (a : Result Found Refusal) (d : Result Holder Refusal) {r : ℕ} {l : List ℕ} → (uncounted a ≡ d) × CountedReads a
    → r ≡ number (answer_find_function a) → l ≡ values 5 (answer_find_function a)
    → (r ≡ number (answer_check_and_find d)) × ((take 4 l ≡ values 4 (answer_check_and_find d)) × Reads d (get_or l 4 0))
told_counted a d e f g =
    rw (← e.0)
    (f ∙ number_kept a, (ap (take 4) g ∙ values_kept a, rw g (reads_kept a e.1)))
