-- The laws of a section as a caller states it.
-- Assumes nothing.
use Rattle.std.specs.Prelude.{Result, Ok, Err}
use Rattle.std.specs.Borrow.{Bor}
use mathlib.Core.Path.{◌≡◌, refl, sym, ap, ◌∙◌}
use mathlib.Core.Logic.{⊎_elim}
use borrow.Author.Tests.{le-leb, lt-leb}
use mathlib.Core.List.{List}
use mathlib.Core.Bool.{true, false}
use Prim.Native.Nat.{ℕ, ◌+◌, ◌-◌, ◌≤◌}
use native.Mathlib.Omega.{arith}
use lib.Dec.{leb}
use lib.ListN.{length, take, drop, length-take, length-drop}
use Rattle.answer.specs.Answer.{cut_of}
use Rattle.answer.specs.declared.Refusal.{Refusal}
use Rattle.fields.proofs.Laws.{le_or_lt}
use Rattle.version_section.specs.Section.{section_of, in_file, lent_of}

ok_not_err : {A : Type 0} {x : A} {k : Refusal} → ◌≡◌ {A = Result A Refusal} (Ok x) (Err k) → ⊥
ok_not_err e = let z : ◌≡◌ {A = ℕ} 0 1 = cc in omega arith

same_ok : {A : Type 0} {x y : A} → ◌≡◌ {A = Result A Refusal} (Ok x) (Ok y) → x ≡ y
same_ok e = cc

same_err : {A : Type 0} {k j : Refusal} → ◌≡◌ {A = Result A Refusal} (Err k) (Err j) → k ≡ j
same_err e = cc

module _ (file : List ℕ) (start size : ℕ) where
  -- the part of the file that the code lends on
  pub part_section : take (start + size - start) (drop start file) ≡ section_of file start size
  unfolding section_of
  part_section = let e : start + size - start ≡ size = omega arith in rw e

  -- a section that lies in the file has as many bytes as it states
  pub length_section : start + size ≤ length file → length (section_of file start size) ≡ size
  unfolding section_of
  length_section h = simp (length-take, length-drop) (omega arith)

  -- the check of a section, as the code makes it: it goes on, or refuses at the section's end
  module _ {A : Type 0} (refusal : Refusal → A) (on : A) where
    pub section_there : {x : A} → leb (start + size) (length file) ≡ true → x ≡ on → x ≡ in_file refusal file start size on
    unfolding in_file
    section_there t e = rw (t, e)

    pub section_past : {q : Refusal} → leb (start + size) (length file) ≡ false → q ≡ cut_of (start + size)
        → refusal q ≡ in_file refusal file start size on
    unfolding in_file
    section_past t e = rw (t, e)

-- a section that is there, as the code lends it
pub lent_there : (file : Bor (List ℕ)) (start size : ℕ) → leb (start + size) (length file.now) ≡ true
    → Ok (record { ref_ptr = (file.ref_ptr.0, start + file.ref_ptr.1); now = take (start + size - start) (drop start file.now) })
    ≡ lent_of file start size
lent_there file start size t =
    let d : start + file.ref_ptr.1 ≡ file.ref_ptr.1 + start = omega arith in
    section_there file.now start size Err _ t (rw (d, part_section file.now start size) refl)

-- what a section that was lent, or refused, tells of the check
module _ (file : Bor (List ℕ)) (start size : ℕ) {r : Result (Bor (List ℕ)) Refusal} (e : r ≡ lent_of file start size) where
  pub section_found : {p : Bor (List ℕ)} → r ≡ Ok p
      → (leb (start + size) (length file.now) ≡ true) × (p.now ≡ section_of file.now start size)
  section_found {p} f =
      ⊎_elim
      (λ h.
      let t = le-leb (start + size) (length file.now) h in
      (t, ap (λ (q : Bor (List ℕ)). q.now) (same_ok (sym f ∙ e ∙ sym (section_there file.now start size Err _ t refl)))))
      (λ h. absurd (ok_not_err (sym f ∙ e ∙ sym (section_past file.now start size Err _ (lt-leb (start + size) (length file.now) h) refl))))
      (le_or_lt (start + size) (length file.now))

  pub section_missed : {k : Refusal} → r ≡ Err k → (leb (start + size) (length file.now) ≡ false) × (k ≡ cut_of (start + size))
  section_missed f =
      ⊎_elim
      (λ h. absurd (ok_not_err (section_there file.now start size Err _ (le-leb (start + size) (length file.now) h) refl ∙ sym e ∙ f)))
      (λ h.
      let t = lt-leb (start + size) (length file.now) h in
      (t, same_err (sym f ∙ e ∙ sym (section_past file.now start size Err _ t refl))))
      (le_or_lt (start + size) (length file.now))
