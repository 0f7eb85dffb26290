-- What the front of a file answers, against the whole file: the same, or 1 at a field that the cut has taken. Said of every reader that
-- opening a file goes through.
-- Assumes nothing.
use Rattle.pe_header.specs.declared.Header.{Header}
use Rattle.std.specs.Prelude.{Result, Ok, Err, ℕ}
use Rattle.answer.specs.Answer.{on_ok, cut_of}
use mathlib.Core.Path.{◌≡◌, refl, sym, ◌∙◌}
use mathlib.Core.List.{List, [], ◌∷◌, ◌++◌}
use mathlib.Core.Bool.{Bool, true, false}
use mathlib.Core.Logic.{⊎_elim}
use Prim.Native.Nat.{ℕ, zero, suc, ◌+◌, ◌≤◌}
use native.Mathlib.Omega.{arith}
use lib.ListN.{length, length-append}
use lib.Dec.{leb, eqb}
use borrow.Author.Tests.{le-leb, lt-leb}
use Rattle.answer.specs.Test.{pick, must, file_limit}
use Rattle.answer.specs.declared.Reason.{Reason}
use Rattle.answer.specs.declared.Refusal.{Refusal}
use Rattle.answer.proofs.Laws.{must_on}
use Rattle.fields.specs.Number.{number_at}
use Rattle.fields.specs.Field.{read_of as field_of}
use Rattle.fields.proofs.Number.{number_before}
use Rattle.fields.proofs.Laws.{le_or_lt, field_value, field_cut}
use Rattle.layout.specs.Layout.{read_by}
use Rattle.pe_dos.specs.Dos.{read_of as dos_at}
use Rattle.pe_coff.specs.Coff.{read_of as coff_at}
use Rattle.pe_optional.specs.Optional.{magic_of, exception_index, needed, fields_at, read_of as optional_at}
use Rattle.pe_optional.specs.declared.OptionalMagic.{OptionalMagic}
use Rattle.pe_optional.specs.declared.OptionalMagic.TheVariants.{Pe32, Pe32Plus}
use Rattle.pe_optional.specs.declared.OptionalHeader.{OptionalHeader}
use Rattle.pe_section.specs.Section.{read_of as row_at}
use Rattle.pe_header.specs.Header.{pointer_in, coff_in, rows_at, header_of, open_of}

-- the answer `x` of the front is the answer `y` of the whole, or a refusal at a field that ends past the front
pub data Upto {A : Type 0} (refusal : Refusal → A) (x y : A) : Type 0 where
  equal : x ≡ y → Upto refusal x y
  missing : (end : ℕ) → x ≡ refusal (cut_of end) → Upto refusal x y

moved : {A : Type 0} {refusal : Refusal → A} {x y a b : A} → a ≡ x → b ≡ y → Upto refusal x y → Upto refusal a b
moved e f (equal g) = equal (e ∙ g ∙ sym f)
moved e f (missing end g) = missing end (e ∙ g)

must_upto : {A : Type 0} (refusal : Refusal → A) (t : Bool) (k : Reason) {x y : A} → Upto refusal x y
    → Upto refusal (must refusal t k x) (must refusal t k y)
unfolding must
must_upto refusal true k u = u
must_upto refusal false k u = equal refl

pick_upto : {A : Type 0} (refusal : Refusal → A) (t : Bool) {x y a b : A} → Upto refusal x y → Upto refusal a b
    → Upto refusal (pick t x a) (pick t y b)
pick_upto refusal true u v = u
pick_upto refusal false u v = v

-- what goes on from an answer
on_upto : {A B : Type 0} {f g : A → Result B Refusal} {r t : Result A Refusal} → Upto Err r t → ((a : A) → Upto Err (f a) (g a))
    → Upto Err (on_ok r Err f) (on_ok t Err g)
on_upto {t = Ok a} (equal e) u = rw e (u a)
on_upto {t = Err k} (equal e) u = rw e (equal refl)
on_upto (missing end e) u = rw e (missing end refl)

module _ {A : Type 0} (refusal : Refusal → A) (big : Bool) (p q : List ℕ) where
  field_upto : (w at : ℕ) (f g : ℕ → A) → ((n : ℕ) → Upto refusal (f n) (g n))
      → Upto refusal (field_of f refusal big w p at) (field_of g refusal big w (p ++ q) at)
  field_upto w at f g u =
      ⊎_elim
      (λ h.
      moved
      (sym (field_value f refusal big w p at h refl))
      (sym (field_value g refusal big w (p ++ q) at (omega (arith, length-append p q)) (sym (number_before big w p q at h))))
      (u (number_at big w p at)))
      (λ h. missing (at + w) (sym (field_cut f refusal big w p at h refl)))
      (le_or_lt (at + w) (length p))

  read_upto : (ws : List ℕ) (at : ℕ) (f g : List ℕ → A) → ((ns : List ℕ) → Upto refusal (f ns) (g ns))
      → Upto refusal (read_by f (λ end. refusal (cut_of end)) big ws p at) (read_by g (λ end. refusal (cut_of end)) big ws (p ++ q) at)
  unfolding read_by
  read_upto [] at f g u = u []
  read_upto (w ∷ ws) at f g u =
      ⊎_elim
      (λ h.
      let l : at + w ≤ length (p ++ q) = omega (arith, length-append p q) in
      rw (le-leb (at + w) (length p) h, le-leb (at + w) (length (p ++ q)) l, number_before big w p q at h)
      (read_upto ws (at + w) (λ ns. f (number_at big w p at ∷ ns)) (λ ns. g (number_at big w p at ∷ ns))
      (λ ns. u (number_at big w p at ∷ ns))))
      (λ h. rw (lt-leb (at + w) (length p) h) (missing (at + w) refl))
      (le_or_lt (at + w) (length p))

module _ (p q : List ℕ) where
  dos_upto : (at : ℕ) → Upto Err (dos_at p at) (dos_at (p ++ q) at)
  unfolding dos_at
  dos_upto at =
      read_upto Err false p q _ at _ _
      (λ ms. must_upto Err _ _ (read_upto Err false p q _ (at + 2) _ _ (λ ns. equal refl)))

  coff_upto : (at : ℕ) → Upto Err (coff_at p at) (coff_at (p ++ q) at)
  unfolding coff_at
  coff_upto at =
      read_upto Err false p q _ at _ _
      (λ ms. must_upto Err _ _ (read_upto Err false p q _ (at + 4) _ _ (λ ns. equal refl)))

  row_upto : (at : ℕ) → Upto Err (row_at p at) (row_at (p ++ q) at)
  unfolding row_at
  row_upto at = read_upto Err false p q _ at _ _ (λ ns. equal refl)

  needed_upto : (at size offset : ℕ) (f g : ℕ → Result OptionalHeader Refusal) → ((n : ℕ) → Upto Err (f n) (g n))
      → Upto Err (needed Err p at size offset f) (needed Err (p ++ q) at size offset g)
  unfolding needed
  needed_upto at size offset f g u =
      field_upto Err false p q 4 (at + offset) _ _ (λ n. must_upto Err _ _ (u n))

  fields_upto : (at size : ℕ) (m : OptionalMagic) → Upto Err (fields_at p at size m) (fields_at (p ++ q) at size m)
  unfolding fields_at
  fields_upto at size m =
      must_upto Err _ _
      (needed_upto at size _ _ _
      (λ alignment. needed_upto at size _ _ _
      (λ count. pick_upto Err (leb count exception_index) (equal refl)
      (needed_upto at size _ _ _ (λ address. needed_upto at size _ _ _ (λ length. equal refl))))))

  optional_upto : (at size : ℕ) → Upto Err (optional_at p at size) (optional_at (p ++ q) at size)
  unfolding optional_at
  optional_upto at size =
      field_upto Err false p q 2 at _ _
      (λ n. pick_upto Err (eqb n (magic_of Pe32)) (fields_upto at size _)
      (pick_upto Err (eqb n (magic_of Pe32Plus)) (fields_upto at size _) (equal refl)))

  rows_upto : (n at : ℕ) (x : Result Header Refusal) → Upto Err (rows_at Err n p at x) (rows_at Err n (p ++ q) at x)
  unfolding rows_at
  rows_upto zero at x = equal refl
  rows_upto (suc n) at x = on_upto (row_upto at) (λ h. rows_upto n (at + 40) x)

  pointer_upto : Upto Err (pointer_in p) (pointer_in (p ++ q))
  unfolding pointer_in
  pointer_upto = on_upto (dos_upto 0) (λ d. equal refl)

  coff_in_upto : (pe : ℕ) → Upto Err (coff_in p pe) (coff_in (p ++ q) pe)
  unfolding coff_in
  coff_in_upto pe = field_upto Err false p q 4 pe _ _ (λ n. must_upto Err _ _ (coff_upto (pe + 4)))

-- opening the front of a file that is not too long
pub header_upto : (p q : List ℕ) → length (p ++ q) ≤ file_limit → Upto Err (open_of p) (open_of (p ++ q))
unfolding open_of
header_upto p q l =
    let a : leb (length p) file_limit ≡ true = le-leb (length p) file_limit (omega (arith, length-append p q)) in
    let b : leb (length (p ++ q)) file_limit ≡ true = le-leb _ _ l in
    moved
    (sym (must_on Err _ _ _ a refl))
    (sym (must_on Err _ _ _ b refl))
    (on_upto (pointer_upto p q)
    (λ pe. on_upto (coff_in_upto p q pe)
    (λ c. on_upto (optional_upto p q _ _) (λ o. rows_upto p q _ _ (Ok (header_of pe c o))))))
