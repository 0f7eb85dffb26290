-- The laws of the DOS header: what proofs of readers and writers cite.
-- Assumes nothing.
use Rattle.std.specs.Prelude.{Result, Ok, Err}
use mathlib.Core.Path.{◌≡◌, refl, sym, ap, ◌∙◌}
use mathlib.Core.List.{List, [], ◌∷◌, ◌++◌}
use mathlib.Core.Bool.{Bool, true, false}
use mathlib.Core.Logic.{⊎_elim}
use Prim.Native.Nat.{ℕ, ◌+◌, ◌≤◌, ◌<◌}
use native.Mathlib.Omega.{arith}
use lib.ListN.{length, take}
use lib.Dec.{eqb}
use borrow.Author.Tests.{eq-eqb, ne_eqb, eqb-true, eqb-false}
use Rattle.answer.specs.Answer.{cut_of, refuse_of, magic, room}
use Rattle.answer.specs.declared.Refusal.{Refusal}
use Rattle.answer.proofs.Laws.{must_on, must_off}
use Rattle.fields.specs.Number.{number_at}
use Rattle.fields.specs.Field.{put}
use Rattle.fields.proofs.Laws.{Missed, le_or_lt}
use Rattle.layout.specs.Layout.{widths, array, elements, read_by, numbers_at, write_by}
use Rattle.layout.proofs.Laws.{Part, found, missing, part, full_is, missed_at, record_done, record_refused}
use Rattle.layout.proofs.Theorems.{Reads, whole as all, cut as lacking, reads}
use Rattle.pe_dos.specs.Dos.{dos_header, header_of, numbers_of, dos_magic, whole, start, rest, read_of, write_of, write_out}
use Rattle.cursor.specs.declared.Cursor.{Cursor}
use Rattle.pe_dos.specs.Code.{halves_at}
use Rattle.pe_dos.specs.declared.DosHeader.{DosHeader}

-- the widths of the two parts in which the header is read
abbrev early : List ℕ
early = widths start

abbrev late : List ℕ
late = widths rest

abbrev short : ℕ → Result DosHeader Refusal
short end = Err (cut_of end)

-- the signature is not whole
pub dos_missed : (s : List ℕ) (at : ℕ) {k : Refusal} → Missed 2 s at k → Err k ≡ read_of s at
unfolding read_of
dos_missed s at m = missed_at false early 0 (omega arith) _ Err s at at m (omega arith) (λ l. omega arith)

-- The signature was read.
module _ (s : List ℕ) (at : ℕ) {n : ℕ} (h : at + 2 ≤ length s) (e : n ≡ number_at false 2 s at) where
  pub dos_wrong : {k : Refusal} → (n ≡ dos_magic → ⊥) → k ≡ refuse_of magic → Err k ≡ read_of s at
  unfolding read_of numbers_at
  dos_wrong l f = full_is false _ _ _ early _ h (must_off Err _ _ _ (ne_eqb _ _ (λ z. l (e ∙ z))) f)

  pub dos_rest : {x : Result DosHeader Refusal} → n ≡ dos_magic → x ≡ read_by (λ ns. whole (number_at false 2 s at ∷ ns)) short false late s (at + 2)
      → x ≡ read_of s at
  unfolding read_of numbers_at
  dos_rest l f = full_is false _ _ _ early _ h (must_on Err _ _ _ (eq-eqb _ _ (sym e ∙ l)) f)

-- the numbers of the run after the signature, the place past it, and what is left to read
pub record Run (full : List ℕ → Result DosHeader Refusal) (ns s : List ℕ) (at next : ℕ) : Type 0 where
  pub numbers : ns ≡ numbers_at false (array 29 2 []) s at
  pub past : next ≡ at + 58
  pub onward : read_by (λ ms. full (numbers_at false (array 29 2 []) s at ++ ms)) short false (4 ∷ []) s (at + 58) ≡ read_by full short false
      late s at

abbrev Halves : Type 0
Halves = Result (List ℕ × Cursor) Refusal

abbrev all_halves : ℕ → List ℕ → Halves
all_halves at ns = Ok (ns, record { at = at + 58 })

abbrev no_halves : ℕ → Halves
no_halves end = Err (cut_of end)

abbrev told : (List ℕ → Result DosHeader Refusal) → Halves → List ℕ → ℕ → Type 0
told full r s at = Part r (all_halves at (numbers_at false (array 29 2 []) s at)) no_halves (read_by full short false late s at)
    (read_by (λ ns. full (numbers_at false (array 29 2 []) s at ++ ns)) short false (4 ∷ []) s (at + 58)) short

both : (full : List ℕ → Result DosHeader Refusal) (r : Halves) (s : List ℕ) (at : ℕ) → r ≡ halves_at s at → told full r s at
unfolding halves_at
both full r s at e = rw e (part (all_halves at) no_halves full short false (array 29 2 []) (4 ∷ []) s at)

never : {x : List ℕ × Cursor} {k : Refusal} → ◌≡◌ {A = Halves} (Ok x) (Err k) → ⊥
never e = let z : ◌≡◌ {A = ℕ} 0 1 = cc in omega arith

same_halves : {x y : List ℕ × Cursor} → ◌≡◌ {A = Halves} (Ok x) (Ok y) → x ≡ y
same_halves e = cc

same_refusal : {k j : Refusal} → ◌≡◌ {A = Halves} (Err k) (Err j) → k ≡ j
same_refusal e = cc

cut_of_lem : (full : List ℕ → Result DosHeader Refusal) {r : Halves} (s : List ℕ) (at : ℕ) {k : Refusal} → r ≡ Err k
    → told full r s at → Err k ≡ read_by full short false late s at
cut_of_lem full s at w (found e f) = absurd (never (sym e ∙ w))
cut_of_lem full s at w (missing n e f) = ap Err (same_refusal (sym w ∙ e)) ∙ f

run_of : (full : List ℕ → Result DosHeader Refusal) {r : Halves} (s : List ℕ) (at : ℕ) {ns : List ℕ} {j : Cursor} → r ≡ Ok (ns, j)
    → told full r s at → Run full ns s at j.at
run_of full s at w (found e f) =
    let x = same_halves (sym w ∙ e) in
    record { numbers = ap (λ y. y.0) x; past = ap (λ y. y.1.at) x; onward = f }
run_of full s at w (missing n e f) = absurd (never (sym w ∙ e))

-- what the run tells of the rest of the header
module _ (full : List ℕ → Result DosHeader Refusal) {r : Halves} (s : List ℕ) (at : ℕ) (e : r ≡ halves_at s at) where
  pub run_missed : {k : Refusal} → r ≡ Err k → Err k ≡ read_by full short false late s at
  run_missed w = cut_of_lem full s at w (both full r s at e)

  pub run_whole : {ns : List ℕ} {j : Cursor} → r ≡ Ok (ns, j) → Run full ns s at j.at
  run_whole w = run_of full s at w (both full r s at e)

module _ (full : List ℕ → Result DosHeader Refusal) {ns : List ℕ} (s : List ℕ) (at i : ℕ) (t : Run full ns s at i) where
  pub pointer_missed : {k : Refusal} → Missed 4 s i k → Err k ≡ read_by full short false late s at
  pointer_missed m =
      missed_at false (4 ∷ []) 0 (omega arith) (λ ms. full (numbers_at false (array 29 2 []) s at ++ ms)) Err s (at + 58) (at + 58)
      (rw t.past at m) (omega arith) (λ l. omega arith)
      ∙ t.onward

  pub pointer_read : {n : ℕ} → i + 4 ≤ length s → n ≡ number_at false 4 s i
      → full (elements 29 0 ns (n ∷ [])) ≡ read_by full short false late s at
  unfolding numbers_at
  pointer_read h k =
      full_is false s (λ ms. full (numbers_at false (array 29 2 []) s at ++ ms)) short (4 ∷ []) (at + 58) (omega (arith, t.past))
      (rw (k, t.past, t.numbers))
      ∙ t.onward

-- Writing.
module _ (o : List ℕ) (at : ℕ) (h : DosHeader) where
  pub write_wrong : {k : Refusal} → (h.signature ≡ dos_magic → ⊥) → k ≡ refuse_of magic
      → (Err k ≡ write_of o at h) × (o ≡ write_out o at h)
  unfolding write_of write_out
  write_wrong l e = (must_off Err _ _ _ (ne_eqb _ _ l) e, rw (ne_eqb h.signature dos_magic l))

  module _ (l : h.signature ≡ dos_magic) where
    pub write_done : {m : List ℕ} → at + 64 ≤ length o → m ≡ put o at (write_by false dos_header (numbers_of h))
        → (Ok tt ≡ write_of o at h) × (m ≡ write_out o at h)
    unfolding write_of write_out
    write_done r e =
        let d = record_done false dos_header (numbers_of h) o at r e in
        (must_on Err _ _ _ (eq-eqb _ _ l) d.0, rw (eq-eqb h.signature dos_magic l) d.1)

    pub write_refused : {k : Refusal} → length o < at + 64 → k ≡ refuse_of room
        → (Err k ≡ write_of o at h) × (o ≡ write_out o at h)
    unfolding write_of write_out
    write_refused r e =
        let d = record_refused false dos_header (numbers_of h) o at r e in
        (must_on Err _ _ _ (eq-eqb _ _ l) d.0, rw (eq-eqb h.signature dos_magic l) d.1)

-- the run that was put is the layout's first thirty fields
pub halves_wrote : (h : DosHeader) (n o l : List ℕ) (at : ℕ) → n ≡ take 30 (numbers_of h) → l ≡ put o at (write_by false (array 30 2 []) n)
    → l ≡ put o at (write_by false (take 30 dos_header) (numbers_of h))
unfolding write_by
halves_wrote h n o l at e f = rw e at f

-- all fields of the header, from the two parts in which they are read
numbers_both : (s : List ℕ) (at : ℕ) → number_at false 2 s at ∷ numbers_at false late s (at + 2) ≡ numbers_at false dos_header s at
unfolding numbers_at
numbers_both s at = refl

-- a header whose signature is right and whose bytes are all there
pub dos_full : (s : List ℕ) (at : ℕ) → at + 64 ≤ length s → number_at false 2 s at ≡ dos_magic
    → whole (numbers_at false dos_header s at) ≡ read_of s at
dos_full s at h m =
    dos_rest s at (omega arith) refl m
    (full_is false s (λ ns. whole (number_at false 2 s at ∷ ns)) short late (at + 2) (omega arith) (ap whole (sym (numbers_both s at))))

-- what a header that was read says
pub record Read (s : List ℕ) (at : ℕ) (h : DosHeader) : Type 0 where
  pub inside : at + 64 ≤ length s
  pub magic_is : number_at false 2 s at ≡ dos_magic
  pub value : h ≡ header_of (numbers_at false dos_header s at)

whole_never : {h : DosHeader} {k : Refusal} → ◌≡◌ {A = Result DosHeader Refusal} (Ok h) (Err k) → ⊥
whole_never e = let z : ◌≡◌ {A = ℕ} 0 1 = cc in omega arith

same_header : {h g : DosHeader} → ◌≡◌ {A = Result DosHeader Refusal} (Ok h) (Ok g) → h ≡ g
same_header e = cc

by_rest : (s : List ℕ) (at : ℕ) {h : DosHeader} {x : Result DosHeader Refusal} → number_at false 2 s at ≡ dos_magic
    → Ok h ≡ x
    → Reads (whole (number_at false 2 s at ∷ numbers_at false late s (at + 2))) short late s (at + 2) x → Read s at h
by_rest s at m e (all r f) =
    record {
      inside = omega (arith, r (omega arith));
      magic_is = m;
      value = same_header (e ∙ f ∙ ap whole (numbers_both s at));
    }
by_rest s at m e (lacking n a b f) = absurd (whole_never (e ∙ f))

by_magic : (s : List ℕ) (at : ℕ) {h : DosHeader} (t : Bool) → eqb (number_at false 2 s at) dos_magic ≡ t → at + 2 ≤ length s
    → Ok h ≡ read_of s at → Read s at h
by_magic s at true b r e =
    let m = eqb-true _ _ b in
    by_rest s at m (e ∙ sym (dos_rest s at r refl m refl)) (reads (λ ns. whole (number_at false 2 s at ∷ ns)) short false late s (at + 2))
by_magic s at false b r e = absurd (whole_never (e ∙ sym (dos_wrong s at r refl (eqb-false _ _ b) refl)))

pub dos_told : (s : List ℕ) (at : ℕ) {h : DosHeader} → Ok h ≡ read_of s at → Read s at h
dos_told s at e =
    ⊎_elim
    (λ r. by_magic s at (eqb (number_at false 2 s at) dos_magic) refl r e)
    (λ r. absurd (whole_never (e ∙ sym (dos_missed s at (record { past = r; why = refl })))))
    (le_or_lt (at + 2) (length s))
