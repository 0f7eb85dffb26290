-- The laws of a needed field and of the fields of the optional header: what proofs of readers cite.
-- Assumes nothing.
use Rattle.pe_optional.specs.declared.OptionalHeader.{OptionalHeader}
use Rattle.std.specs.Prelude.{Result, Ok, Err, ℕ}
use mathlib.Core.Path.{◌≡◌, refl, sym, ap, ◌∙◌}
use mathlib.Core.List.{List}
use mathlib.Core.Bool.{Bool, true, false}
use mathlib.Core.Logic.{⊎_elim}
use Prim.Native.Nat.{ℕ, ◌+◌, ◌^◌, ◌≤◌, ◌<◌}
use native.Mathlib.Omega.{arith}
use lib.ListN.{length}
use lib.Dec.{leb}
use borrow.Author.Tests.{le-leb, lt-leb, eq-eqb, ne_eqb}
use Rattle.answer.specs.Answer.{refuse_of, cut_of, beyond_of, magic, contradiction}
use Rattle.answer.specs.Test.{pick, must}
use Rattle.answer.specs.declared.Refusal.{Refusal}
use Rattle.answer.proofs.Laws.{must_on, must_off, cut_beyond}
use Rattle.fields.specs.Number.{number_at}
use Rattle.fields.proofs.Laws.{Missed, le_or_lt, field_value, field_cut}
use Rattle.pe_optional.specs.Optional.{magic_of, magic_named, exception_at, needed, fields_at, read_of}
use Rattle.pe_optional.specs.declared.OptionalMagic.{OptionalMagic}
use Rattle.pe_optional.specs.declared.OptionalMagic.TheVariants.{Pe32, Pe32Plus}

-- A needed field, from the code's side, a law for each outcome.
module _ {A : Type 0} (refusal : Refusal → A) (s : List ℕ) (at size offset : ℕ) (on : ℕ → A) where
  pub needed_missed : {k : Refusal} → Missed 4 s (at + offset) k → refusal k ≡ needed refusal s at size offset on
  unfolding needed
  needed_missed m = field_cut _ refusal false 4 s (at + offset) m.past m.why

  -- the field is past 64 bits
  pub needed_past : {k : Refusal} → length s < at + offset + 4 → 2 ^ 64 ≤ at + offset + 4 → k ≡ beyond_of
      → refusal k ≡ needed refusal s at size offset on
  needed_past l p e = needed_missed (record { past = l; why = e ∙ cut_beyond (at + offset + 4) p })

  module _ (h : at + offset + 4 ≤ length s) where
    pub needed_outside : {k : Refusal} → leb (offset + 4) size ≡ false → k ≡ refuse_of contradiction
        → refusal k ≡ needed refusal s at size offset on
    unfolding needed
    needed_outside l e =
        must_off refusal _ _ _ l e
        ∙ field_value (λ n. must refusal (leb (offset + 4) size) contradiction (on n)) refusal false 4 s (at + offset) h refl

    pub needed_value : {x : A} → leb (offset + 4) size ≡ true → x ≡ on (number_at false 4 s (at + offset))
        → x ≡ needed refusal s at size offset on
    unfolding needed
    needed_value l e =
        must_on refusal _ _ _ l e
        ∙ field_value (λ n. must refusal (leb (offset + 4) size) contradiction (on n)) refusal false 4 s (at + offset) h refl

never : {n : ℕ} {k : Refusal} → ◌≡◌ {A = Result ℕ Refusal} (Ok n) (Err k) → ⊥
never e = let z : ◌≡◌ {A = ℕ} 0 1 = cc in omega arith

same_value : {n m : ℕ} → ◌≡◌ {A = Result ℕ Refusal} (Ok n) (Ok m) → n ≡ m
same_value e = cc

same_refusal : {k j : Refusal} → ◌≡◌ {A = Result ℕ Refusal} (Err k) (Err j) → k ≡ j
same_refusal e = cc

-- A needed field, from the caller's side: what the answer of `read_needed` tells of what goes on from there.
module _ {A : Type 0} (refusal : Refusal → A) (s : List ℕ) (at size offset : ℕ) (on : ℕ → A) {r : Result ℕ Refusal}
    (e : r ≡ needed Err s at size offset Ok) where
  is_value : at + offset + 4 ≤ length s → offset + 4 ≤ size → r ≡ Ok (number_at false 4 s (at + offset))
  is_value h l = e ∙ sym (needed_value Err s at size offset Ok h (le-leb _ _ l) refl)

  is_outside : at + offset + 4 ≤ length s → size < offset + 4 → r ≡ Err (refuse_of contradiction)
  is_outside h l = e ∙ sym (needed_outside Err s at size offset Ok h (lt-leb _ _ l) refl)

  is_missed : length s < at + offset + 4 → r ≡ Err (cut_of (at + offset + 4))
  is_missed h = e ∙ sym (needed_missed Err s at size offset Ok (record { past = h; why = refl }))

  pub needed_on : {n : ℕ} {x : A} → r ≡ Ok n → x ≡ on n → x ≡ needed refusal s at size offset on
  needed_on f g =
      ⊎_elim
      (λ h.
      ⊎_elim
      (λ l. needed_value refusal s at size offset on h (le-leb _ _ l) (g ∙ ap on (same_value (sym f ∙ is_value h l))))
      (λ l. absurd (never (sym f ∙ is_outside h l)))
      (le_or_lt (offset + 4) size))
      (λ h. absurd (never (sym f ∙ is_missed h)))
      (le_or_lt (at + offset + 4) (length s))

  pub needed_stop : {k : Refusal} → r ≡ Err k → refusal k ≡ needed refusal s at size offset on
  needed_stop f =
      ⊎_elim
      (λ h.
      ⊎_elim
      (λ l. absurd (never (sym (is_value h l) ∙ f)))
      (λ l. needed_outside refusal s at size offset on h (lt-leb _ _ l) (same_refusal (sym f ∙ is_outside h l)))
      (le_or_lt (offset + 4) size))
      (λ h. needed_missed refusal s at size offset on (record { past = h; why = same_refusal (sym f ∙ is_missed h) }))
      (le_or_lt (at + offset + 4) (length s))

same_magic : {m o : OptionalMagic} → ◌≡◌ {A = Result OptionalMagic Refusal} (Ok m) (Ok o) → m ≡ o
same_magic e = cc

no_magic : {m : OptionalMagic} {k : Refusal} → ◌≡◌ {A = Result OptionalMagic Refusal} (Ok m) (Err k) → ⊥
no_magic e = let z : ◌≡◌ {A = ℕ} 0 1 = cc in omega arith

why_no_magic : {k j : Refusal} → ◌≡◌ {A = Result OptionalMagic Refusal} (Err k) (Err j) → k ≡ j
why_no_magic e = cc

-- what goes on from the form that the two tests of a magic number name
by_name : (on : OptionalMagic → Result OptionalHeader Refusal) (q : Refusal) (t u : Bool) {m : OptionalMagic} {x : Result OptionalHeader Refusal}
    → Ok m ≡ pick t (Ok Pe32) (pick u (Ok Pe32Plus) (Err q)) → x ≡ on m → x ≡ pick t (on Pe32) (pick u (on Pe32Plus) (Err q))
by_name on q true u e f = f ∙ ap on (same_magic e)
by_name on q false true e f = f ∙ ap on (same_magic e)
by_name on q false false e f = absurd (no_magic e)

by_no_name : (on : OptionalMagic → Result OptionalHeader Refusal) (q : Refusal) (t u : Bool) {k : Refusal}
    → ◌≡◌ {A = Result OptionalMagic Refusal} (Err k) (pick t (Ok Pe32) (pick u (Ok Pe32Plus) (Err q)))
    → ◌≡◌ {A = Result OptionalHeader Refusal} (Err k) (pick t (on Pe32) (pick u (on Pe32Plus) (Err q)))
by_no_name on q true u e = absurd (no_magic (sym e))
by_no_name on q false true e = absurd (no_magic (sym e))
by_no_name on q false false e = ap Err (why_no_magic e)

-- The header, by its magic number.
module _ (s : List ℕ) (at size : ℕ) where
  pub optional_missed : {k : Refusal} → Missed 2 s at k → Err k ≡ read_of s at size
  unfolding read_of
  optional_missed m = field_cut _ Err false 2 s at m.past m.why

  module _ {n : ℕ} (h : at + 2 ≤ length s) (e : n ≡ number_at false 2 s at) where
    pub optional_narrow : {x : Result OptionalHeader Refusal} → n ≡ magic_of Pe32 → x ≡ fields_at s at size Pe32 → x ≡ read_of s at size
    unfolding read_of
    optional_narrow m f = f ∙ rw (← field_value _ Err false 2 s at h e, eq-eqb n (magic_of Pe32) m)

    pub optional_wide : {x : Result OptionalHeader Refusal} → (n ≡ magic_of Pe32 → ⊥) → n ≡ magic_of Pe32Plus → x ≡ fields_at s at size Pe32Plus
        → x ≡ read_of s at size
    unfolding read_of
    optional_wide l m f = f ∙ rw (← field_value _ Err false 2 s at h e, ne_eqb n (magic_of Pe32) l, eq-eqb n (magic_of Pe32Plus) m)

    pub optional_wrong : {k : Refusal} → (n ≡ magic_of Pe32 → ⊥) → (n ≡ magic_of Pe32Plus → ⊥) → k ≡ refuse_of magic
        → Err k ≡ read_of s at size
    unfolding read_of
    optional_wrong l m f =
        rw (← field_value _ Err false 2 s at h e, ne_eqb n (magic_of Pe32) l, ne_eqb n (magic_of Pe32Plus) m, f)

    -- the same by the form that the number names, or none
    pub optional_named : {m : OptionalMagic} {x : Result OptionalHeader Refusal} → Ok m ≡ magic_named n → x ≡ fields_at s at size m
        → x ≡ read_of s at size
    unfolding read_of
    optional_named m f = by_name (fields_at s at size) (refuse_of magic) _ _ m f ∙ field_value _ Err false 2 s at h e

    pub optional_unnamed : {k : Refusal} → ◌≡◌ {A = Result OptionalMagic Refusal} (Err k) (magic_named n) → Err k ≡ read_of s at size
    unfolding read_of
    optional_unnamed m = by_no_name (fields_at s at size) (refuse_of magic) _ _ m ∙ field_value _ Err false 2 s at h e

-- the exception directory is near the front of the header
pub exception_small : (m : OptionalMagic) → exception_at m ≤ 136
exception_small Pe32 = omega arith
exception_small Pe32Plus = omega arith
