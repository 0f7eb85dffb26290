-- What is proved of the DOS header, for every input. That a function answers its definition is its contract (src/lib.rt).
-- Assumes nothing.
use Rattle.std.specs.Prelude.{Result, Ok, Err}
use Rattle.answer.specs.declared.Refusal.{Refusal}
use mathlib.Core.Path.{◌≡◌, refl, sym, ap, ◌∙◌}
use mathlib.Core.List.{List, [], ◌++◌, append_assoc}
use mathlib.Core.Bool.{false}
use Prim.Native.Nat.{ℕ, ◌+◌, ◌≤◌}
use native.Mathlib.Omega.{arith}
use lib.Dec.{T}
use lib.ListN.{length, get_or, take, drop, length-take, length-append, take-append-drop}
use lib.Seq.{drop-drop}
use Rattle.answer.specs.Answer.{values}
use Rattle.answer.proofs.Unique.{same, same_both}
use Rattle.fields.specs.Number.{Bytes, number_at}
use Rattle.fields.specs.Field.{put}
use Rattle.layout.specs.Layout.{placed, numbers_at, write_by, Fits}
use Rattle.layout.proofs.Laws.{read_full}
use Rattle.layout.proofs.Theorems.{length_written, read_written, written_read, elements_all}
use Rattle.pe_dos.specs.Dos.{fields, dos_header, header_of, numbers_of, dos_magic, whole, read_of, write_of, write_out}
use Rattle.pe_dos.specs.Answers.{answer_read_dos_header, count_read_dos_header, header_or_zeros}
use Rattle.pe_dos.specs.declared.DosHeader.{DosHeader}
use Rattle.pe_dos.proofs.Laws.{dos_full, dos_told, write_done}

-- Each field of the table is where the one before it ends.
pub fields_placed : T (placed 0 fields)
fields_placed = tt

-- what the type of a header says of its value: each number fits its field, and the arrays have their lengths
pub record Good (h : DosHeader) : Type 0 where
  pub fits : Fits dos_header (numbers_of h)
  pub four : 4 ≡ length h.reserved
  pub ten : 10 ≡ length h.reserved2

again : (h : DosHeader) → Good h → header_of (numbers_of h) ≡ h
again h g = rw (elements_all 4 0 h.reserved g.four, elements_all 10 0 h.reserved2 g.ten)

numbers_written : (ns p q : List ℕ) → Fits dos_header ns → numbers_at false dos_header (p ++ write_by false dos_header ns ++ q) (length p) ≡ ns
numbers_written ns p q f =
    let b : List ℕ = write_by false dos_header ns in
    let l : length p + 64 ≤ length (p ++ b ++ q) = simp length-append (omega (arith, length_written false dos_header ns)) in
    read_full false (p ++ b ++ q) (λ ms. ms) (λ n. ns) dos_header (length p) l ∙ read_written (λ ms. ms) (λ n. ns) false dos_header ns p q f

first_number : (s : List ℕ) (at : ℕ) → number_at false 2 s at ≡ get_or (numbers_at false dos_header s at) 0 0
unfolding numbers_at
first_number s at = refl

-- A header that was written is read again, whatever precedes and follows it.
pub found_written : (h : DosHeader) (p q : List ℕ) → Good h → h.signature ≡ dos_magic
    → read_of (p ++ write_by false dos_header (numbers_of h) ++ q) (length p) ≡ Ok h
found_written h p q g m =
    let b : List ℕ = write_by false dos_header (numbers_of h) in
    let l : length p + 64 ≤ length (p ++ b ++ q) = simp length-append (omega (arith, length_written false dos_header (numbers_of h))) in
    let n = numbers_written (numbers_of h) p q g.fits in
    let k : number_at false 2 (p ++ b ++ q) (length p) ≡ dos_magic = first_number (p ++ b ++ q) (length p) ∙ ap (λ (ns : List ℕ). get_or ns 0 0)
    n ∙ m in
    sym (dos_full (p ++ b ++ q) (length p) l k) ∙ ap whole n ∙ ap Ok (again h g)

-- In a lent buffer with room for it, too.
pub read_stored : (o : List ℕ) (at : ℕ) (h : DosHeader) → Good h → h.signature ≡ dos_magic → at + 64 ≤ length o
    → read_of (write_out o at h) at ≡ Ok h
unfolding put
read_stored o at h g m r =
    let b : List ℕ = write_by false dos_header (numbers_of h) in
    let k : length (take at o) ≡ at = length-take at o ∙ omega arith in
    let e : put o at b ≡ write_out o at h = (write_done o at h m r refl).1 in
    rw (← e) (rw k at (found_written h (take at o) (drop (at + length b) o) g m))

-- Bytes that were read as a header are written again ..
pub written_found : (s : List ℕ) (at : ℕ) (h : DosHeader) → Bytes s → Ok h ≡ read_of s at
    → write_by false dos_header (numbers_of h) ≡ take 64 (drop at s)
unfolding numbers_at
written_found s at h b e =
    let t = dos_told s at e in
    ap (λ (x : DosHeader). write_by false dos_header (numbers_of x)) t.value ∙ written_read false dos_header s at t.inside b

-- .. and written where they were, they change nothing.
pub stored_found : (s : List ℕ) (at : ℕ) (h : DosHeader) → Bytes s → Ok h ≡ read_of s at
    → write_out s at h ≡ s
unfolding put numbers_at
stored_found s at h b e =
    let t = dos_told s at e in
    let m : h.signature ≡ dos_magic = ap (λ (x : DosHeader). x.signature) t.value ∙ t.magic_is in
    let d : put s at (write_by false dos_header (numbers_of h)) ≡ write_out s at h = (write_done s at h m t.inside refl).1 in
    let l : length (write_by false dos_header (numbers_of h)) ≡ 64 = length_written false dos_header (numbers_of h) in
    sym d ∙ rw (
      l,
      written_found s at h b e,
      ← drop-drop 64 at s,
      append_assoc (take at s) (take 64 (drop at s)) (drop 64 (drop at s)),
      take-append-drop 64 (drop at s),
    ) (take-append-drop at s)

-- Two answers that meet a promise of this crate are equal.
pub read_unique : (s : List ℕ) (at : ℕ) {r q : Result DosHeader Refusal} → r ≡ read_of s at → q ≡ read_of s at → r ≡ q
read_unique s at = same

pub write_unique : (o : List ℕ) (at : ℕ) (h : DosHeader) {r q : Result Unit Refusal} {l k : List ℕ} → (r ≡ write_of o at h) × (l ≡ write_out o at h)
    → (q ≡ write_of o at h) × (k ≡ write_out o at h) → (r ≡ q) × (l ≡ k)
write_unique o at h = same_both

-- The answer has as many numbers as it says, zeros where it is refused.
pub read_count : (a : Result DosHeader Refusal) → length (values count_read_dos_header (answer_read_dos_header a)) ≡ count_read_dos_header
read_count (Ok h) = refl
read_count (Err k) = refl

-- The header that C is handed is the one that was read, and zeros where it is refused.
pub read_header : (h : DosHeader) → header_or_zeros (Ok h) ≡ h
read_header h = refl

pub refused_zeros : (k : Refusal) → header_or_zeros (Err k) ≡ header_of []
refused_zeros k = refl
