-- Two answers that meet a promise of this crate are equal. What they are is `versym`'s to say.
-- Assumes nothing.
use Rattle.versym.specs.declared.Versym.{Versym}
use Rattle.std.specs.Prelude.{Result}
use Rattle.answer.specs.declared.Refusal.{Refusal}
use mathlib.Core.Path.{◌≡◌, ap, ◌∙◌}
use mathlib.Core.List.{List}
use mathlib.Core.Bool.{Bool}
use Prim.Native.Nat.{ℕ}
use denote.Ref.{Bor}
use Rattle.answer.proofs.Unique.{same}
use Rattle.version_section.specs.declared.CountEntries.{CountEntries}
use Rattle.versym.specs.Versym.{count_in_of, get_at_in_of}
use Rattle.versym_section.specs.declared.VersymSection.{VersymSection}

pub new_unique : (bytes : Bor (List ℕ)) (big : Bool) {r q : VersymSection}
    → (r.bytes ≡ bytes) × (r.big ≡ big) → (q.bytes ≡ bytes) × (q.big ≡ big) → r ≡ q
new_unique bytes big {r} {q} e f =
    ap (λ (x : Bor (List ℕ)). record { bytes = x; big = r.big }) (same e.0 f.0)
    ∙ ap (λ (y : Bool). record { bytes = q.bytes; big = y }) (same e.1 f.1)

pub len_unique : (d : VersymSection) {r q : CountEntries} → r ≡ count_in_of d.bytes.now → q ≡ count_in_of d.bytes.now → r ≡ q
len_unique d = same

pub get_at_unique : (d : VersymSection) (index : ℕ) {r q : Result Versym Refusal}
    → r ≡ get_at_in_of d.big d.bytes.now index → q ≡ get_at_in_of d.big d.bytes.now index → r ≡ q
get_at_unique d index = same

pub get_at_of_unique : (s : List ℕ) (big : Bool) (index : ℕ) {r q : Result Versym Refusal}
    → r ≡ get_at_in_of big s index → q ≡ get_at_in_of big s index → r ≡ q
get_at_of_unique s big index = same
