-- What an accepted optional header says, and the field at which a refused one stops, for every input.
-- Assumes nothing.
use Rattle.pe_optional.specs.declared.DataDirectory.{DataDirectory}
use Rattle.std.specs.Prelude.{Result, Ok, Err, Option, Some, None}
use mathlib.Core.Path.{◌≡◌, refl, sym, ◌∙◌}
use mathlib.Core.List.{List}
use mathlib.Core.Bool.{Bool, true, false}
use mathlib.Core.Logic.{⊎_elim}
use Prim.Native.Nat.{ℕ, ◌+◌, ◌≤◌, ◌<◌}
use native.Mathlib.Omega.{arith}
use lib.ListN.{length}
use lib.Dec.{leb, eqb}
use borrow.Author.Tests.{le-leb, lt-leb, leb-true, leb-false, eqb-true}
use Rattle.answer.specs.Answer.{refuse_of, cut_of, magic, contradiction}
use Rattle.answer.specs.Test.{pick, must}
use Rattle.answer.specs.declared.Reason.{Reason}
use Rattle.answer.specs.declared.Refusal.{Refusal}
use Rattle.answer.proofs.Laws.{must_on, must_off}
use Rattle.fields.specs.Number.{number_at}
use Rattle.fields.proofs.Laws.{le_or_lt, field_value, field_cut}
use Rattle.pe_optional.specs.Optional.{magic_of, alignment_at, count_at, exception_at, exception_index, needed, header_of, fields_at, read_of}
use Rattle.pe_optional.specs.declared.OptionalMagic.{OptionalMagic}
use Rattle.pe_optional.specs.declared.OptionalMagic.TheVariants.{Pe32, Pe32Plus}
use Rattle.pe_optional.specs.declared.OptionalHeader.{OptionalHeader}
use Rattle.pe_optional.proofs.Laws.{needed_missed, needed_outside, needed_value, optional_missed, optional_narrow, optional_wide, optional_wrong}

-- the number of the 4 bytes at an offset of the header at `at`
abbrev pub word_at : List ℕ → ℕ → ℕ → ℕ
word_at s at offset = number_at false 4 s (at + offset)

-- how reading goes on after each needed field
abbrev on_length : OptionalMagic → ℕ → ℕ → ℕ → ℕ → Result OptionalHeader Refusal
on_length m alignment count address size =
    Ok (header_of m alignment count (Some (record { virtual_address = address; size = size })))

abbrev on_address : List ℕ → ℕ → ℕ → OptionalMagic → ℕ → ℕ → ℕ → Result OptionalHeader Refusal
on_address s at size m alignment count address = needed Err s at size (exception_at m + 4) (on_length m alignment count address)

abbrev on_count : List ℕ → ℕ → ℕ → OptionalMagic → ℕ → ℕ → Result OptionalHeader Refusal
on_count s at size m alignment count =
    pick (leb count exception_index) (Ok (header_of m alignment count None))
    (needed Err s at size (exception_at m) (on_address s at size m alignment count))

abbrev on_alignment : List ℕ → ℕ → ℕ → OptionalMagic → ℕ → Result OptionalHeader Refusal
on_alignment s at size m alignment = needed Err s at size (count_at m) (on_count s at size m alignment)

-- the magic is there, is that of `m`, and lies inside the stated size
pub record Begins (s : List ℕ) (at size : ℕ) (m : OptionalMagic) : Type 0 where
  pub there : at + 2 ≤ length s
  pub number : magic_of m ≡ number_at false 2 s at
  pub stated : 2 ≤ size

-- the bytes of the field at an offset are there, and it ends inside the stated size
pub record Inside (s : List ℕ) (at size offset : ℕ) : Type 0 where
  pub there : at + offset + 4 ≤ length s
  pub stated : offset + 4 ≤ size

-- the value is the number of a needed field that is inside
pub record Needed (s : List ℕ) (at size offset n : ℕ) : Type 0 where
  pub inside : Inside s at size offset
  pub value : n ≡ word_at s at offset

-- there is no exception directory with 3 directories or fewer; with more there is, and its two values are those of its fields
abbrev pub DirectoryRead : List ℕ → ℕ → ℕ → OptionalMagic → ℕ → Option DataDirectory → Type 0
DirectoryRead s at size m count None = count ≤ exception_index
DirectoryRead s at size m count (Some d) =
    (exception_index < count) × Needed s at size (exception_at m) d.virtual_address × Needed s at size (exception_at m + 4) d.size

-- what an accepted header says
pub record Accepted (s : List ℕ) (at size : ℕ) (h : OptionalHeader) : Type 0 where
  pub begins : Begins s at size h.magic
  pub alignment : Needed s at size alignment_at h.file_alignment
  pub count : Needed s at size (count_at h.magic) h.number_of_directories
  pub directory : DirectoryRead s at size h.magic h.number_of_directories h.exceptions

never : {h : OptionalHeader} {k : Refusal} → ◌≡◌ {A = Result OptionalHeader Refusal} (Ok h) (Err k) → ⊥
never e = let z : ◌≡◌ {A = ℕ} 0 1 = cc in omega arith

same_header : {h g : OptionalHeader} → ◌≡◌ {A = Result OptionalHeader Refusal} (Ok h) (Ok g) → h ≡ g
same_header e = cc

-- what an accepted header says of a field that was needed on the way
record Told (s : List ℕ) (at size offset : ℕ) (on : ℕ → Result OptionalHeader Refusal) (h : OptionalHeader) : Type 0 where
  needed : Needed s at size offset (word_at s at offset)
  onward : Ok h ≡ on (word_at s at offset)

needed_told : (s : List ℕ) (at size offset : ℕ) (on : ℕ → Result OptionalHeader Refusal) {h : OptionalHeader}
    → Ok h ≡ needed Err s at size offset on → Told s at size offset on h
needed_told s at size offset on e =
    ⊎_elim
    (λ r.
    ⊎_elim
    (λ l.
    record {
      needed = record { inside = record { there = r; stated = l }; value = refl };
      onward = e ∙ sym (needed_value Err s at size offset on r (le-leb _ _ l) refl);
    })
    (λ l. absurd (never (e ∙ sym (needed_outside Err s at size offset on r (lt-leb _ _ l) refl))))
    (le_or_lt (offset + 4) size))
    (λ r. absurd (never (e ∙ sym (needed_missed Err s at size offset on (record { past = r; why = refl })))))
    (le_or_lt (at + offset + 4) (length s))

must_told : {h : OptionalHeader} (t : Bool) (k : Reason) (on : Result OptionalHeader Refusal) → Ok h ≡ must Err t k on
    → (t ≡ true) × (Ok h ≡ on)
unfolding must
must_told true k on e = (refl, e)
must_told false k on e = absurd (never e)

module _ (s : List ℕ) (at size : ℕ) (m : OptionalMagic) where
  by_count : (alignment count : ℕ) (few : Bool) {h : OptionalHeader} → leb count exception_index ≡ few → Begins s at size m
      → Needed s at size alignment_at alignment → Needed s at size (count_at m) count
      → Ok h
      ≡ pick few (Ok (header_of m alignment count None))
      (needed Err s at size (exception_at m) (on_address s at size m alignment count))
      → Accepted s at size h
  by_count alignment count true t b p q e =
      rw (same_header e) (record { begins = b; alignment = p; count = q; directory = leb-true _ _ t })
  by_count alignment count false t b p q e =
      let x = needed_told s at size (exception_at m) (on_address s at size m alignment count) e in
      let address : ℕ = word_at s at (exception_at m) in
      let y = needed_told s at size (exception_at m + 4) (on_length m alignment count address) x.onward in
      rw (same_header y.onward)
      (record { begins = b; alignment = p; count = q; directory = (leb-false _ _ t, x.needed, y.needed) })

  fields_told : {h : OptionalHeader} → at + 2 ≤ length s → magic_of m ≡ number_at false 2 s at → Ok h ≡ fields_at s at size m
      → Accepted s at size h
  unfolding fields_at
  fields_told r z e =
      let t = must_told (leb 2 size) contradiction (needed Err s at size alignment_at (on_alignment s at size m)) e in
      let a = needed_told s at size alignment_at (on_alignment s at size m) t.1 in
      let alignment : ℕ = word_at s at alignment_at in
      let c = needed_told s at size (count_at m) (on_count s at size m alignment) a.onward in
      let count : ℕ = word_at s at (count_at m) in
      by_count alignment count (leb count exception_index) refl
      (record { there = r; number = z; stated = leb-true _ _ t.0 })
      a.needed
      c.needed
      c.onward

by_magic : (s : List ℕ) (at size : ℕ) (narrow wide : Bool) {h : OptionalHeader} → at + 2 ≤ length s
    → eqb (number_at false 2 s at) (magic_of Pe32) ≡ narrow → eqb (number_at false 2 s at) (magic_of Pe32Plus) ≡ wide
    → Ok h ≡ pick narrow (fields_at s at size Pe32) (pick wide (fields_at s at size Pe32Plus) (Err (refuse_of magic)))
    → Accepted s at size h
by_magic s at size true wide r n w e = fields_told s at size Pe32 r (sym (eqb-true _ _ n)) e
by_magic s at size false true r n w e = fields_told s at size Pe32Plus r (sym (eqb-true _ _ w)) e
by_magic s at size false false r n w e = absurd (never e)

pub accepted_says : (s : List ℕ) (at size : ℕ) {h : OptionalHeader} → Ok h ≡ read_of s at size → Accepted s at size h
unfolding read_of
accepted_says s at size e =
    ⊎_elim
    (λ r. by_magic s at size _ _ r refl refl (e ∙ sym (field_value _ Err false 2 s at r refl)))
    (λ r. absurd (never (e ∙ sym (field_cut _ Err false 2 s at r refl))))
    (le_or_lt (at + 2) (length s))

-- Reading stops with that answer at the field of an offset: with 1 where its bytes are not there, else with 4 where it is not inside the
-- stated size.
abbrev pub Stops : List ℕ → ℕ → ℕ → ℕ → Result OptionalHeader Refusal → Type 0
Stops s at size offset r =
    (length s < at + offset + 4 → r ≡ Err (cut_of (at + offset + 4)))
    × (at + offset + 4 ≤ length s → size < offset + 4 → r ≡ Err (refuse_of contradiction))

needed_stops : (s : List ℕ) (at size offset : ℕ) (on : ℕ → Result OptionalHeader Refusal) {r : Result OptionalHeader Refusal}
    → needed Err s at size offset on ≡ r → Stops s at size offset r
needed_stops s at size offset on e = (
  (λ l. sym (needed_missed Err s at size offset on (record { past = l; why = refl }) ∙ e)),
  (λ h l. sym (needed_outside Err s at size offset on h (lt-leb _ _ l) refl ∙ e)),
)

passed : (s : List ℕ) (at size offset : ℕ) (on : ℕ → Result OptionalHeader Refusal) → Inside s at size offset
    → on (word_at s at offset) ≡ needed Err s at size offset on
passed s at size offset on i = needed_value Err s at size offset on i.there (le-leb _ _ i.stated) refl

begun : (s : List ℕ) (at size : ℕ) (m : OptionalMagic) {x : Result OptionalHeader Refusal} → at + 2 ≤ length s → magic_of m ≡ number_at false 2 s at
    → x ≡ fields_at s at size m → x ≡ read_of s at size
begun s at size Pe32 r z e = optional_narrow s at size r refl (sym z) e
begun s at size Pe32Plus r z e = optional_wide s at size r refl (λ y. omega (arith, y, z)) (sym z) e

-- which answer is given at the magic: 1, 2 and 4 in this order
module _ (s : List ℕ) (at size : ℕ) where
  pub magic_short : length s < at + 2 → read_of s at size ≡ Err (cut_of (at + 2))
  magic_short l = sym (optional_missed s at size (record { past = l; why = refl }))

  pub magic_wrong : at + 2 ≤ length s → (number_at false 2 s at ≡ magic_of Pe32 → ⊥) → (number_at false 2 s at ≡ magic_of Pe32Plus → ⊥)
      → read_of s at size ≡ Err (refuse_of magic)
  magic_wrong h n w = sym (optional_wrong s at size h refl n w refl)

  pub magic_outside : (m : OptionalMagic) → at + 2 ≤ length s → magic_of m ≡ number_at false 2 s at → size < 2
      → read_of s at size ≡ Err (refuse_of contradiction)
  unfolding fields_at
  magic_outside m h z l = sym (begun s at size m h z (must_off Err _ _ _ (lt-leb _ _ l) refl))

-- at which needed field reading stops, where all before it are inside
module _ (s : List ℕ) (at size : ℕ) (m : OptionalMagic) (b : Begins s at size m) where
  to_alignment : needed Err s at size alignment_at (on_alignment s at size m) ≡ read_of s at size
  unfolding fields_at
  to_alignment = begun s at size m b.there b.number (must_on Err _ _ _ (le-leb _ _ b.stated) refl)

  pub stops_alignment : Stops s at size alignment_at (read_of s at size)
  stops_alignment = needed_stops s at size alignment_at (on_alignment s at size m) to_alignment

  module _ (i : Inside s at size alignment_at) where
    to_count : needed Err s at size (count_at m) (on_count s at size m (word_at s at alignment_at)) ≡ read_of s at size
    to_count = passed s at size alignment_at (on_alignment s at size m) i ∙ to_alignment

    pub stops_count : Stops s at size (count_at m) (read_of s at size)
    stops_count = needed_stops s at size (count_at m) (on_count s at size m (word_at s at alignment_at)) to_count

    module _ (j : Inside s at size (count_at m)) (many : exception_index < word_at s at (count_at m)) where
      to_address : needed Err s at size (exception_at m)
          (on_address s at size m (word_at s at alignment_at) (word_at s at (count_at m)))
          ≡ read_of s at size
      to_address =
          rw (lt-leb _ _ many) at (passed s at size (count_at m) (on_count s at size m (word_at s at alignment_at)) j)
          ∙ to_count

      pub stops_address : Stops s at size (exception_at m) (read_of s at size)
      stops_address =
          needed_stops s at size (exception_at m)
          (on_address s at size m (word_at s at alignment_at) (word_at s at (count_at m)))
          to_address

      pub stops_size : Inside s at size (exception_at m) → Stops s at size (exception_at m + 4) (read_of s at size)
      stops_size k =
          needed_stops s at size (exception_at m + 4) _
          (passed s at size (exception_at m)
          (on_address s at size m (word_at s at alignment_at) (word_at s at (count_at m)))
          k
          ∙ to_address)
