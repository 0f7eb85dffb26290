-- What holds of every answer, whatever enum it is written as.
-- Assumes nothing.
use Rattle.std.specs.Prelude.{codes}
use mathlib.Core.Path.{◌≡◌, refl}
use mathlib.Core.List.{List}
use mathlib.Core.Bool.{Bool, true, false}
use Prim.Native.Nat.{ℕ, ◌^◌, ◌≤◌}
use native.Mathlib.Omega.{arith}
use lib.ListN.{replicate}
use lib.Dec.{ltb}
use Rattle.answer.specs.declared.Reason.{Reason}
use Rattle.answer.specs.declared.Reason.TheVariants as reason
use Rattle.answer.specs.declared.Refusal.{Refusal}
use Rattle.answer.specs.Answer.{Answer, accepted, partly, refused, number, values, number_of, number_of_reason, refuse_of, cut_by, cut_of, beyond_of}
use Rattle.answer.specs.Words.{shown_of}

-- Every reason has a number from 1 to 15.
pub reason_numbered : (why : Reason) → (1 ≤ number_of_reason why) × (number_of_reason why ≤ 15)
reason_numbered reason.Short = (omega arith, omega arith)
reason_numbered reason.Magic = (omega arith, omega arith)
reason_numbered reason.Limit = (omega arith, omega arith)
reason_numbered reason.Contradiction = (omega arith, omega arith)
reason_numbered reason.NoSection = (omega arith, omega arith)
reason_numbered reason.Version = (omega arith, omega arith)
reason_numbered reason.Operation = (omega arith, omega arith)
reason_numbered reason.Links = (omega arith, omega arith)
reason_numbered reason.Order = (omega arith, omega arith)
reason_numbered reason.NotFound = (omega arith, omega arith)
reason_numbered reason.NotStrict = (omega arith, omega arith)
reason_numbered reason.Stack = (omega arith, omega arith)
reason_numbered reason.Room = (omega arith, omega arith)
reason_numbered reason.PastFile = (omega arith, omega arith)
reason_numbered reason.Machine = (omega arith, omega arith)

-- A refusal's number is not 0, and the numbers beside it are zeros, however many the answer has.
pub refused_numbered : (k : Refusal) → 1 ≤ number (refused k)
refused_numbered k = (reason_numbered k.reason).0

pub refused_zeros : (n : ℕ) (k : Refusal) → values n (refused k) ≡ replicate n 0
refused_zeros n k = refl

-- An answer whose number is 0 is accepted.
pub zero_accepted : (a : Answer) → number a ≡ 0 → a ≡ accepted (values 0 a)
zero_accepted (accepted ns) e = refl
zero_accepted (partly ns) e = absurd (omega arith)
zero_accepted (refused k) e = absurd (omega (arith, refused_numbered k))

-- The answer that lists what is before bad bytes is 1, and it is no refusal: its numbers are those that were listed.
pub partly_is_one : (ns : List ℕ) (n : ℕ) → (number (partly ns) ≡ 1) × (values n (partly ns) ≡ ns)
partly_is_one ns n = (refl, refl)

by_test : (t : Bool) (end : ℕ) → number_of (cut_by t end) ≡ 1
unfolding beyond_of
by_test true end = refl
by_test false end = refl

-- Missing bytes are 1, wherever the field ends.
pub cut_is_one : (end : ℕ) → number_of (cut_of end) ≡ 1
unfolding cut_of
cut_is_one end = by_test (ltb end (2 ^ 64)) end

-- Of a refusal `{}` writes the text of its number, with no space after it.
pub not_found_shown : shown_of (refuse_of reason.NotFound) ≡ codes "not found"
unfolding shown_of
not_found_shown = refl
