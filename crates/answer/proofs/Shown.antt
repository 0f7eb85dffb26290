-- The row of a refusal's number is a text, and that text without the spaces at its end is what `{}` writes of the refusal.
-- Assumes nothing.
use mathlib.Core.Path.{◌≡◌, refl, sym, ◌∙◌, ap}
use mathlib.Core.Bool.{true}
use mathlib.Core.List.{List}
use Prim.Native.Nat.{ℕ}
use lib.Utf8.{encode}
use denote.Ref.{Bor}
use Rattle.std.specs.Prelude.{Result, Ok, Err, MatchResult}
use Rattle.std.specs.Result.{result_unwrap_or}
use Rattle.std.specs.declared.fmt.Formatter.{Formatter}
use Rattle.std.specs.Fmt.{HasWritten}
use Rattle.std.specs.declared.str.Utf8Error.{Utf8Error}
use Rattle.std.specs.Str.{IsUtf8, IsValidUpTo, valid_up_to, is_utf8, chars, trim_end}
use Rattle.std.proofs.lemmas.Str.{IsUtf8-from_is_utf8}
use Rattle.answer.specs.declared.Reason.{Reason}
use Rattle.answer.specs.declared.Reason.TheVariants as reason
use Rattle.answer.specs.declared.Refusal.{Refusal}
use Rattle.answer.specs.Answer.{number_of, number_of_reason, refuse_of}
use Rattle.answer.specs.Words.{words_of, shown_of}

-- what `str::from_utf8` says of its answer
abbrev Read : List ℕ → Result (Bor (List ℕ)) Utf8Error → Type 0
Read bytes r = MatchResult r (λ s. (s.now ≡ bytes) × IsUtf8 bytes) (λ e. ¬ (IsUtf8 bytes) × IsValidUpTo bytes (valid_up_to e))

-- the row of each refusal is a text, of which the text that `{}` writes is left without the spaces at its end
row_trims : (why : Reason) → (is_utf8 (words_of (number_of_reason why)) ≡ true) × (trim_end (words_of (number_of_reason why)) ≡ shown_of (refuse_of why))
unfolding words_of shown_of is_utf8 chars encode trim_end
row_trims reason.Short = (refl, refl)
row_trims reason.Magic = (refl, refl)
row_trims reason.Limit = (refl, refl)
row_trims reason.Contradiction = (refl, refl)
row_trims reason.NoSection = (refl, refl)
row_trims reason.Version = (refl, refl)
row_trims reason.Operation = (refl, refl)
row_trims reason.Links = (refl, refl)
row_trims reason.Order = (refl, refl)
row_trims reason.NotFound = (refl, refl)
row_trims reason.NotStrict = (refl, refl)
row_trims reason.Stack = (refl, refl)
row_trims reason.Room = (refl, refl)
row_trims reason.PastFile = (refl, refl)
row_trims reason.Machine = (refl, refl)

-- what is read of the row of a refusal, without the spaces at its end
text_shown : (k : Refusal) (row : List ℕ) (r : Result (Bor (List ℕ)) Utf8Error) (other : Bor (List ℕ)) → row ≡ words_of (number_of k) → Read row r →
    trim_end (result_unwrap_or r other).now ≡ shown_of k
text_shown k row (Ok s) other e m = rw (m.0, e) (row_trims k.reason).1
text_shown k row (Err _) other e m = absurd (m.0 (IsUtf8-from_is_utf8 row (rw e (row_trims k.reason).0)))

-- where that is written, what `{}` is to write is written
pub row_written : {W : Type 0} (took : W → List ℕ → W → Type 0) (f g : Formatter W) (k : Refusal) (n : ℕ) (row : List ℕ)
    (r : Result (Bor (List ℕ)) Utf8Error) (other s : Bor (List ℕ)) (t : List ℕ) →
    HasWritten took f t g → t ≡ trim_end s.now → s ≡ result_unwrap_or r other → Read row r → row ≡ words_of n → n ≡ number_of k →
    HasWritten took f (shown_of k) g
row_written took f g k n row r other s t w t_is s_is m row_is n_is =
    rw (sym (text_shown k row r other (row_is ∙ ap words_of n_is) m), sym s_is, sym t_is) w
