-- The laws of a member: a law for each way that its reading ends, and what an accepted one says.
-- Assumes nothing.
use Rattle.std.specs.Prelude.{Result, Ok, Err}
use mathlib.Core.Path.{◌≡◌, refl, ap, ◌∙◌}
use mathlib.Core.List.{List, ◌++◌}
use mathlib.Core.Bool.{Bool, true, false}
use Prim.Native.Nat.{ℕ, ◌+◌, ◌≤◌, ◌<◌}
use native.Mathlib.Omega.{arith}
use lib.ListN.{length, get_or, take}
use lib.Dec.{leb}
use borrow.Author.Tests.{le-leb, lt-leb, leb-true}
use Rattle.answer.specs.Answer.{refuse_of, cut_of, past_file}
use Rattle.answer.specs.Test.{must}
use Rattle.answer.specs.declared.Reason.{Reason}
use Rattle.answer.specs.declared.Refusal.{Refusal}
use Rattle.answer.proofs.Laws.{must_on, must_off}
use Rattle.fields.specs.Number.{number_at}
use Rattle.fields.proofs.Laws.{Missed}
use Rattle.cursor.proofs.Laws.{Took}
use Rattle.layout.specs.Layout.{Field, widths, up_to, after, the, reading, size, numbers_at}
use Rattle.layout.proofs.Laws.{missed_at, full_is}
use Rattle.layout.proofs.Theorems.{Reads, reads}
use Rattle.layout.proofs.Theorems as layout
use Rattle.fat_member.specs.FatArch.{fat_arch, arch_of, read_of, Inside}
use Rattle.fat_member.specs.declared.FatArch.{FatArch}

-- a number that was taken, by the place that the cursor was at
pub number_there : {big : Bool} {w : ℕ} {s : List ℕ} {i n next at : ℕ} → Took big w s i n next → i ≡ at → n ≡ number_at big w s at
number_there {big} {w} {s} t e = t.value ∙ ap (number_at big w s) e

-- the widths of the fields up to the size, and of those after it
abbrev pub fronts : List Field → List ℕ
fronts arch = widths (up_to "size" arch)

abbrev pub backs : List Field → List ℕ
backs arch = widths (after "size" arch)

-- A member, check by check, whatever the form. `front` are the numbers of its fields up to its size, `back` those after it.
module _ (arch : List Field) (s : List ℕ) (at : ℕ) where
  abbrev pub front : List ℕ
  front = numbers_at true (fronts arch) s at

  abbrev pub back : List ℕ
  back = numbers_at true (backs arch) s (at + size (fronts arch))

  -- where the member ends
  abbrev pub end : ℕ
  end = the arch "offset" front + the arch "size" front

  pub member_no_front : (k : ℕ) → k < length (fronts arch) → {i : ℕ} {q : Refusal} → Missed (get_or (fronts arch) k 0) s i q
      → i ≡ at + size (take k (fronts arch)) → (0 < k → i ≤ length s) → Err q ≡ read_of arch s at
  unfolding read_of
  member_no_front k h {i} m e r = missed_at true (fronts arch) k h _ Err s at i m e r

  module _ (room : at + size (fronts arch) ≤ length s) where
    pub member_past : {q : Refusal} → length s < end → q ≡ refuse_of past_file → Err q ≡ read_of arch s at
    unfolding read_of
    member_past h e = full_is true s _ _ (fronts arch) at room (must_off Err _ past_file _ (lt-leb end (length s) h) e)

    module _ (within : end ≤ length s) where
      pub member_no_back : (k : ℕ) → k < length (backs arch) → {i : ℕ} {q : Refusal} → Missed (get_or (backs arch) k 0) s i q
          → i ≡ at + size (fronts arch) + size (take k (backs arch)) → (0 < k → i ≤ length s) → Err q ≡ read_of arch s at
      unfolding read_of
      member_no_back k h {i} m e r =
          full_is true s _ _ (fronts arch) at room
          (must_on Err _ past_file _ (le-leb end (length s) within)
          (missed_at true (backs arch) k h _ Err s (at + size (fronts arch)) i m e r))

      pub member_whole : {m : FatArch} → at + size (fronts arch) + size (backs arch) ≤ length s → m ≡ arch_of arch (front ++ back)
          → Ok m ≡ read_of arch s at
      unfolding read_of
      member_whole h e =
          full_is true s _ _ (fronts arch) at room
          (must_on Err _ past_file _ (le-leb end (length s) within)
          (full_is true s _ _ (backs arch) (at + size (fronts arch)) h (ap Ok e)))

-- the numbers of the two parts are those of the whole record
pub numbers_parts : (s : List ℕ) (at : ℕ) → front fat_arch s at ++ back fat_arch s at ≡ numbers_at true (widths fat_arch) s at
unfolding numbers_at
numbers_parts s at = let e : at + 4 + 4 + 4 + 4 ≡ at + 16 = omega arith in rw e

-- What holds of every refusal, and of what comes after a check that is passed, holds of the answer.
module _ {A : Type 0} (refusal : Refusal → A) (P : A → Type 0) (refusals : (k : Refusal) → P (refusal k)) where
  pub told_must : (test : Bool) (why : Reason) (on : A) → (test ≡ true → P on) → P (must refusal test why on)
  unfolding must
  told_must true why on h = h refl
  told_must false why on h = refusals (refuse_of why)

  pub told_reads : {s : List ℕ} {full x : A} {ws : List ℕ} {at : ℕ} → Reads full (λ end. refusal (cut_of end)) ws s at x
      → ((0 < length ws → at + size ws ≤ length s) → P full) → P x
  told_reads (layout.whole r e) h = rw e (h r)
  told_reads (layout.cut n a b e) h = rw e (refusals (cut_of n))

-- The same of a member.
pub told_member : (P : Result FatArch Refusal → Type 0) → ((k : Refusal) → P (Err k)) → (s : List ℕ) (at : ℕ)
    → (at + 20 ≤ length s → end fat_arch s at ≤ length s → P (Ok (arch_of fat_arch (front fat_arch s at ++ back fat_arch s at))))
    → P (read_of fat_arch s at)
unfolding read_of
told_member P refusals s at h =
    let on : List ℕ → Result FatArch Refusal = λ ms. Ok (arch_of fat_arch (front fat_arch s at ++ ms)) in
    told_reads Err P refusals (reads _ _ true (fronts fat_arch) s at)
    (λ r. told_must Err P refusals (leb (end fat_arch s at) (length s)) past_file
    (reading Err true (after "size" fat_arch) s (at + 16) on)
    (λ t. told_reads Err P refusals (reads on _ true (backs fat_arch) s (at + 16))
    (λ q. h (omega (arith, q (omega arith))) (leb-true (end fat_arch s at) (length s) t))))

-- a member that is accepted ends within the file
pub member_inside : (s : List ℕ) (at : ℕ) → Inside s (read_of fat_arch s at)
unfolding numbers_at
member_inside s at = told_member (Inside s) (λ k. tt) s at (λ h l. l)
