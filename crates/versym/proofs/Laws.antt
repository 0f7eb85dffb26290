-- What a section of a file that was lent, or refused, tells of a door on it.
-- Assumes nothing.
use Rattle.std.proofs.Common.{◌≡◌, refl, sym, ap, ◌∙◌, ℕ, ◌≤◌, ◌<◌, List, Result, Ok, Err, length, arith, le-leb}
use Rattle.std.proofs.lemmas.Bool.{lt-leb}
use Rattle.std.specs.Borrow.{Bor}
use mathlib.Core.Logic.{⊎_elim}
use Rattle.answer.specs.Answer.{refuse_of, limit}
use Rattle.answer.specs.Test.{file_limit, in_limit}
use Rattle.answer.specs.declared.Refusal.{Refusal}
use Rattle.answer.proofs.Laws.{must_on, must_off}
use Rattle.fields.proofs.Laws.{le_or_lt}
use Rattle.version_section.specs.Section.{section_of, in_file, lent_of}
use Rattle.version_section.proofs.Laws.{section_there, section_past, section_found, section_missed}

ok_not_err : {A : Type 0} {x : A} {k : Refusal} → ◌≡◌ {A = Result A Refusal} (Ok x) (Err k) → ⊥
ok_not_err e = let z : ◌≡◌ {A = ℕ} 0 1 = cc in omega arith

same_err : {A : Type 0} {k j : Refusal} → ◌≡◌ {A = Result A Refusal} (Err k) (Err j) → k ≡ j
same_err e = cc

module _ (file : Bor (List ℕ)) (start size : ℕ) {r : Result (Bor (List ℕ)) Refusal}
    (e : r ≡ in_limit Err file.now (lent_of file start size)) where
  by_limit : length file.now ≤ file_limit → r ≡ lent_of file start size
  by_limit h = e ∙ sym (must_on Err _ limit _ (le-leb (length file.now) file_limit h) refl)

  long : file_limit < length file.now → r ≡ Err (refuse_of limit)
  long h = e ∙ sym (must_off Err _ limit _ (lt-leb (length file.now) file_limit h) refl)

  -- it was lent: the door goes on with its bytes
  pub lent_on : {A : Type 0} (on : List ℕ → Result A Refusal) {p : Bor (List ℕ)} {x : Result A Refusal} → r ≡ Ok p → x ≡ on p.now
      → x ≡ in_limit Err file.now (in_file Err file.now start size (on (section_of file.now start size)))
  lent_on on f g =
      ⊎_elim
      (λ h.
      let s = section_found file start size (by_limit h) f in
      must_on Err _ limit _ (le-leb (length file.now) file_limit h) (section_there file.now start size Err _ s.0 (g ∙ ap on s.1)))
      (λ h. absurd (ok_not_err (sym f ∙ long h)))
      (le_or_lt (length file.now) file_limit)

  -- it was refused: so does the door
  pub lent_off : {A : Type 0} (on : Result A Refusal) {k : Refusal} {x : Result A Refusal} → r ≡ Err k → x ≡ Err k
      → x ≡ in_limit Err file.now (in_file Err file.now start size on)
  lent_off on f g =
      g ∙ ⊎_elim
      (λ h.
      let s = section_missed file start size (by_limit h) f in
      must_on Err _ limit _ (le-leb (length file.now) file_limit h) (section_past file.now start size Err on s.0 s.1))
      (λ h. must_off Err _ limit _ (lt-leb (length file.now) file_limit h) (same_err (sym f ∙ long h)))
      (le_or_lt (length file.now) file_limit)
