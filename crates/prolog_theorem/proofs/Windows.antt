-- The words that tell the caller lie at multiples of 8 where RSP at entry does: so a window that spans them holds them.
-- Assumes nothing.
use Rattle.std.specs.Prelude.{Some}
use mathlib.Core.Path.{◌≡◌, refl, ap, ◌∙◌}
use mathlib.Core.Logic.{◌≢◌}
use mathlib.Core.Bool.{Bool, true, false}
use mathlib.Core.List.{List, [], ◌∷◌, ◌++◌}
use Prim.Native.Nat.{ℕ, zero, suc, ◌+◌, ◌-◌, ◌*◌, ◌/◌, ◌%◌, ◌^◌, ◌≤◌, ◌<◌}
use native.Mathlib.Omega.{arith}
use lib.ListN.{length, get_or}
use borrow.Author.Tests.{eqb-true, eq-eqb, le-leb, lt-ltb}
use Rattle.answer.specs.Test.{pick}
use Rattle.unwind_operation.specs.declared.UnwindOperation.{UnwindOperation}
use Rattle.unwind_operation.specs.declared.UnwindOperation.TheVariants.{PushNonVolatile, Alloc, SetFPRegister, SaveNonVolatile, SaveXMM}
use Rattle.unwind_operation.specs.declared.UnwindOperation.TheVariants.{Epilog, SaveXMM128, PushMachineFrame, Noop}
use Rattle.unwind_array.specs.Arrays.{Frame, Arrays, ChainCode, codes_in, outer_codes, joined_of}
use Rattle.unwind_state.specs.State.{Window, word_at}
use Rattle.unwind_undo.specs.Undo.{place_of}
use Rattle.unwind_undo.specs.Distance.{Distance}
use Rattle.strict_prolog.specs.Strict.{every, aligned, strict}
use Rattle.prolog_machine.specs.Machine.{Memory, Machine, rsp_of, Entry, called, interrupted, error_bytes, push_frame}
use Rattle.prolog_machine.specs.Stop.{Every, Sized, Small, reached, up_to, ran_of, needed, FitsEntry, Fits, Entered, Holds, Spans}
use Rattle.prolog_theorem.proofs.Acts.{Act, push, alloc, frame, save, save_xmm, trap, acts, pushed, taken, frame_drop, dropped, ActsFit}
use Rattle.prolog_theorem.proofs.Runs.{rsp_is}
use Rattle.prolog_theorem.proofs.Words.{needs}
use Rattle.prolog_theorem.proofs.Back.{Ends, high, entry_fits}
use Rattle.prolog_theorem.proofs.Codes.{act_of, ops_of, acts_of, needed_is, fits_is, ends_is}
use Rattle.prolog_theorem.proofs.Cross.{both}
use Rattle.prolog_theorem.proofs.Ran.{ops_joined}
use Rattle.prolog_theorem.proofs.Chain.{strict_enough, chain}

-- ---- a window that spans words at multiples of 8 holds them

span_one : (w : Window) (memory : Memory) (x : ℕ) → w.base % 8 ≡ 0 → x % 8 ≡ 0 → w.base ≤ x → x < w.base + 8 * length w.words
    → ((i : ℕ) → i < length w.words → get_or w.words i 0 ≡ memory (w.base + 8 * i)) → word_at w x ≡ Some (memory x)
unfolding word_at
span_one w memory x wb xb low high words =
    let i : ℕ = (x - w.base) / 8 in
    let e : w.base + 8 * i ≡ x = omega arith in
    let h : i < length w.words = omega arith in
    rw (eq-eqb (w.base % 8) 0 wb, eq-eqb (x % 8) 0 xb, le-leb w.base x low, lt-ltb i (length w.words) h)
    (ap Some (words i h ∙ ap memory e))

pub spans_hold : (w : Window) (memory : Memory) (xs : List ℕ) → Spans w memory xs → Every (λ x. x % 8 ≡ 0) xs → Holds w memory xs
spans_hold w memory xs s = go xs s.low s.high
  where
    go : (xs : List ℕ) → Every (λ x. w.base ≤ x) xs → Every (λ x. x < w.base + 8 * length w.words) xs → Every (λ x. x % 8 ≡ 0) xs
        → Holds w memory xs
    go [] lo hi al = tt
    go (x ∷ xs) lo hi al = (span_one w memory x s.aligned al.0 lo.0 hi.0 s.words, go xs lo.1 hi.1 al.1)

-- ---- multiples of 8

abbrev Eights : List Act → Type 0
Eights [] = Unit {0}
Eights (push r ∷ cs) = Eights cs
Eights (alloc n ∷ cs) = (n % 8 ≡ 0) × Eights cs
Eights (frame ∷ cs) = Eights cs
Eights (save r o ∷ cs) = (o % 8 ≡ 0) × Eights cs
Eights (save_xmm x o ∷ cs) = (o % 8 ≡ 0) × Eights cs
Eights (trap e ∷ cs) = Eights cs

drop_8 : (entry : Entry) (e : Bool) → frame_drop entry e % 8 ≡ 0
drop_8 called true = refl
drop_8 called false = refl
drop_8 (interrupted x) e = refl

error_8 : (e : Bool) → error_bytes e % 8 ≡ 0
error_8 true = refl
error_8 false = refl

depth_8 : (entry : Entry) (cs : List Act) → Eights cs → (pushed cs + taken cs + dropped entry cs) % 8 ≡ 0
depth_8 entry [] e = refl
depth_8 entry (push r ∷ cs) e = omega (arith, depth_8 entry cs e)
depth_8 entry (alloc n ∷ cs) e = omega (arith, depth_8 entry cs e.1, e.0)
depth_8 entry (frame ∷ cs) e = depth_8 entry cs e
depth_8 entry (save r o ∷ cs) e = depth_8 entry cs e.1
depth_8 entry (save_xmm x o ∷ cs) e = depth_8 entry cs e.1
depth_8 entry (trap t ∷ cs) e = omega (arith, depth_8 entry cs e, drop_8 entry t)

module _ (entry : Entry) (f : Frame) (m : Machine) (f4 : f.register ≢ 4) (l : length m.registers.gpr ≡ 16) (e8 : rsp_of m % 8 ≡ 0) where
  rsp_8 : (cs : List Act) → Eights cs → ActsFit entry f cs m → rsp_of (acts entry f cs m) % 8 ≡ 0
  rsp_8 cs e fit = omega (arith, rsp_is entry f m f4 l cs fit, depth_8 entry cs e)

  needs_8 : (cs : List Act) → Eights cs → ActsFit entry f cs m → Every (λ x. x % 8 ≡ 0) (needs entry f cs m)
  needs_8 [] e fit = (e8, tt)
  needs_8 (push r ∷ cs) e fit =
      let low : 8 ≤ rsp_of (acts entry f cs m) = fit.0 in
      (omega (arith, rsp_8 cs e fit.1), needs_8 cs e fit.1)
  needs_8 (alloc n ∷ cs) e fit = needs_8 cs e.1 fit.1
  needs_8 (frame ∷ cs) e fit = needs_8 cs e fit.1
  needs_8 (save r o ∷ cs) e fit = (omega (arith, rsp_8 cs e.1 fit.1, e.0), needs_8 cs e.1 fit.1)
  needs_8 (save_xmm x o ∷ cs) e fit =
      (omega (arith, rsp_8 cs e.1 fit.1, e.0), (omega (arith, rsp_8 cs e.1 fit.1, e.0), needs_8 cs e.1 fit.1))
  needs_8 (trap t ∷ cs) e fit =
      let h = rsp_8 (trap t ∷ cs) e fit in
      let k = error_8 t in
      (omega arith, (omega arith, tt))

one_8 : (o : UnwindOperation) (xs : List Act) → aligned o ≡ true → Eights xs → Eights (act_of o xs)
one_8 (PushNonVolatile r) xs a h = h
one_8 (Alloc n) xs a h = (eqb-true (n % 8) 0 a, h)
one_8 SetFPRegister xs a h = h
one_8 (SaveNonVolatile r o) xs a h = (eqb-true (place_of o % 8) 0 a, h)
one_8 (SaveXMM r o) xs a h = h
one_8 (Epilog x y) xs a h = h
one_8 (SaveXMM128 r o) xs a h = let k = eqb-true (place_of o % 16) 0 a in (omega arith, h)
one_8 (PushMachineFrame c) xs a h = h
one_8 Noop xs a h = h

abbrev AlignedCodes : List ChainCode → Type 0
AlignedCodes [] = Unit {0}
AlignedCodes (c ∷ cs) = (aligned c.code.operation ≡ true) × AlignedCodes cs

codes_8 : (cs : List ChainCode) → AlignedCodes cs → Eights (acts_of cs)
codes_8 [] h = tt
codes_8 (c ∷ cs) h = one_8 c.code.operation (acts_of cs) h.0 (codes_8 cs h.1)

aligned_codes : (cs : List ChainCode) → every aligned (ops_of cs) ≡ true → AlignedCodes cs
aligned_codes [] e = tt
aligned_codes (c ∷ cs) e = let q = both (aligned c.code.operation) _ e in (q.0, aligned_codes cs q.1)

aligned_run : (d : Distance) (cs ds : List ChainCode) → AlignedCodes (cs ++ ds) → AlignedCodes (up_to d cs ++ ds)
aligned_run d [] ds h = h
aligned_run d (c ∷ cs) ds h = go (reached d c.code.code_offset) (aligned_run d cs ds h.1)
  where
    go : (t : Bool) → AlignedCodes (up_to d cs ++ ds) → AlignedCodes (pick t (c ∷ up_to d cs) (up_to d cs) ++ ds)
    go true k = (h.0, k)
    go false k = k

pub needed_aligned : (a : Arrays) (d : Distance) (entry : Entry) (m : Machine) → strict a ≡ true → Small (joined_of a) → Sized m.registers
    → Fits entry (ran_of d a) m → rsp_of m % 8 ≡ 0 → Every (λ x. x % 8 ≡ 0) (needed entry (ran_of d a) m)
unfolding joined_of
needed_aligned a d entry m e small zm fit e8 =
    let c = chain a d e small in
    let f : Frame = a.found.frame in
    let all : AlignedCodes (joined_of a) = aligned_codes (joined_of a) (rw (ops_joined a) (strict_enough a e).1) in
    rw (needed_is entry f (ran_of d a) m c.plain)
    (needs_8 entry f m c.not_rsp zm.general e8 (acts_of (ran_of d a))
    (codes_8 (ran_of d a) (aligned_run d (codes_in true a.found) (outer_codes a.outer) all))
    (fits_is entry f (ran_of d a) m c.plain fit))

-- ---- a window of the whole memory

-- all of them lie below 2^64
frame_low : (entry : Entry) (f : Frame) (m : Machine) (e : Bool) (cs : List Act) → f.register ≢ 4 → length m.registers.gpr ≡ 16
    → Ends entry (trap e ∷ cs) → ActsFit entry f (trap e ∷ cs) m → FitsEntry entry m
    → rsp_of (push_frame entry e (acts entry f cs m)) + error_bytes e + 24 < 2 ^ 64
frame_low called f m e cs f4 l en fit h = omega (arith, rsp_is called f m f4 l (trap e ∷ cs) fit)
frame_low (interrupted x) f m e cs f4 l en fit h =
    let h' : rsp_of m + error_bytes e + 24 < 2 ^ 64 = rw en at h in
    omega (arith, rsp_is (interrupted x) f m f4 l (trap e ∷ cs) fit)

module _ (entry : Entry) (f : Frame) (m : Machine) (f4 : f.register ≢ 4) (l : length m.registers.gpr ≡ 16) where
  needs_low : (cs : List Act) → Ends entry cs → ActsFit entry f cs m → Every (λ x. x < 2 ^ 64) (needs entry f cs m)
  needs_low [] en fit = (omega (arith, high entry m fit), tt)
  needs_low (push r ∷ cs) en fit =
      let up = high entry m (entry_fits entry f m cs fit.1) in
      (omega (arith, rsp_is entry f m f4 l cs fit.1), needs_low cs en fit.1)
  needs_low (alloc n ∷ cs) en fit = needs_low cs en fit.1
  needs_low (frame ∷ cs) en fit = needs_low cs en fit.1
  needs_low (save r o ∷ cs) en fit = (fit.0, needs_low cs en fit.1)
  needs_low (save_xmm x o ∷ cs) en fit =
      let h : rsp_of (acts entry f cs m) + o + 8 < 2 ^ 64 = fit.0 in
      (omega arith, (h, needs_low cs en fit.1))
  needs_low (trap t ∷ cs) en fit =
      let h = frame_low entry f m t cs f4 l en fit (entry_fits entry f m cs fit.1) in
      (omega arith, (h, tt))

pub needed_low : (a : Arrays) (d : Distance) (entry : Entry) (m : Machine) → strict a ≡ true → Small (joined_of a) → Sized m.registers
    → Entered entry (ran_of d a) → Fits entry (ran_of d a) m → Every (λ x. x < 2 ^ 64) (needed entry (ran_of d a) m)
needed_low a d entry m e small zm en fit =
    let c = chain a d e small in
    let f : Frame = a.found.frame in
    rw (needed_is entry f (ran_of d a) m c.plain)
    (needs_low entry f m c.not_rsp zm.general (acts_of (ran_of d a)) (ends_is entry (ran_of d a) en)
    (fits_is entry f (ran_of d a) m c.plain fit))

-- so many words of a memory, from one on
table : Memory → ℕ → ℕ → List ℕ
table memory k zero = []
table memory k (suc n) = memory (8 * k) ∷ table memory (suc k) n

table_length : (memory : Memory) (k n : ℕ) → length (table memory k n) ≡ n
unfolding table
table_length memory k zero = refl
table_length memory k (suc n) = ap suc (table_length memory (suc k) n)

table_at_lem : (memory : Memory) (k n i : ℕ) → i < n → get_or (table memory k n) i 0 ≡ memory (8 * (k + i))
unfolding table
table_at_lem memory k zero i h = absurd (omega arith)
table_at_lem memory k (suc n) zero h = ap memory (omega arith)
table_at_lem memory k (suc n) (suc i) h = table_at_lem memory (suc k) n i (omega arith) ∙ ap memory (omega arith)

pub window_of : Memory → ℕ → Window
window_of memory n = record { base = 0; words = table memory 0 n }

low_here : (n : ℕ) (xs : List ℕ) → 2 ^ 64 ≡ 8 * n → Every (λ x. x < 2 ^ 64) xs → Every (λ x. x < 0 + 8 * n) xs
low_here n [] e h = tt
low_here n (x ∷ xs) e h = (omega (arith, h.0), low_here n xs e h.1)

all_from : (xs : List ℕ) → Every (λ x. 0 ≤ x) xs
all_from [] = tt
all_from (x ∷ xs) = (omega arith, all_from xs)

pub window_spans : (memory : Memory) (n : ℕ) (xs : List ℕ) → 2 ^ 64 ≡ 8 * n → Every (λ x. x < 2 ^ 64) xs → Spans (window_of memory n) memory xs
unfolding window_of
window_spans memory n xs e h =
    record {
      aligned = refl;
      words = λ i k. table_at_lem memory 0 n i (omega (arith, table_length memory 0 n)) ∙ ap memory (omega arith);
      low = all_from xs;
      high = rw (table_length memory 0 n) (low_here n xs e h);
    }
