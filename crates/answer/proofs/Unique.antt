-- Two answers that meet one promise are equal: a promise is an equation with a definition, of the answer and of the lent memory.
-- Assumes nothing.
use mathlib.Core.Path.{◌≡◌, sym, ◌∙◌}
use mathlib.Core.List.{List, ◌++◌}
use mathlib.Core.Bool.{Bool}
use Prim.Native.Nat.{ℕ, ◌+◌}
use Rattle.answer.specs.Bit.{bit_of}
use Rattle.answer.specs.declared.Reason.{Reason}
use Rattle.answer.specs.declared.Refusal.{Refusal}
use Rattle.answer.specs.Answer.{alone, refuse_of, cut_of, beyond_of, number_of}
use Rattle.answer.specs.Words.{words_of, shown_of}
use Rattle.std.specs.declared.fmt.Formatter.{Formatter}
use Rattle.std.specs.Fmt.{formatter_writer, HasWritten}
use Rattle.std.proofs.lemmas.Fmt.{contents_after_writes}

-- of an answer
pub same : {A : Type 0} {d r q : A} → r ≡ d → q ≡ d → r ≡ q
same e f = e ∙ sym f

-- of an answer and what a lent buffer holds then
pub same_both : {A B : Type 0} {d r q : A} {m l k : B} → (r ≡ d) × (l ≡ m) → (q ≡ d) × (k ≡ m) → (r ≡ q) × (l ≡ k)
same_both e f = (same e.0 f.0, same e.1 f.1)

pub words_unique : (n : ℕ) {r q : List ℕ} → r ≡ words_of n → q ≡ words_of n → r ≡ q
words_unique n = same

-- of what a writer that appends holds once `{}` has written
pub shown_unique : {W : Type 0} (took : W → List ℕ → W → Type 0) (contents : W → List ℕ) →
    ((w : W) (bs : List ℕ) (v : W) → took w bs v → contents v ≡ contents w ++ bs) → (k : Refusal) (f g h : Formatter W) →
    HasWritten took f (shown_of k) g → HasWritten took f (shown_of k) h →
    contents (formatter_writer g) ≡ contents (formatter_writer h)
shown_unique took contents appends k f g h a b =
    same (contents_after_writes took contents appends _ _ _ a.wrote) (contents_after_writes took contents appends _ _ _ b.wrote)

pub refuse_unique : (why : Reason) {r q : Refusal} → r ≡ refuse_of why → q ≡ refuse_of why → r ≡ q
refuse_unique why = same

pub cut_unique : (at width : ℕ) {r q : Refusal} → r ≡ cut_of (at + width) → q ≡ cut_of (at + width) → r ≡ q
cut_unique at width = same

pub beyond_unique : {r q : Refusal} → r ≡ beyond_of → q ≡ beyond_of → r ≡ q
beyond_unique = same

pub number_unique : (k : Refusal) {r q : ℕ} → r ≡ number_of k → q ≡ number_of k → r ≡ q
number_unique k = same

-- of the number that a number stands for
pub numbers_unique : (n : ℕ) {r q : List ℕ} → r ≡ alone n → q ≡ alone n → r ≡ q
numbers_unique n = same

-- of a yes or no
pub bit_unique : (b : Bool) {r q : ℕ} → r ≡ bit_of b → q ≡ bit_of b → r ≡ q
bit_unique b = same
