-- The conditions of a strict prolog, over the arrays of a chain. An array lists its operations from the last to the first, and an info is
-- chained to the one whose prolog ran before its own: so the joined list, read backwards, is the prolog.
-- Assumes nothing.
use Rattle.std.specs.Prelude.{ℕ, suc, ◌+◌, ◌%◌, List, [], ◌∷◌, ◌++◌, Bool, true, false, not, ◌&&◌, ◌||◌, leb, ltb, eqb}
use Rattle.answer.specs.Test.{pick}
use Rattle.unwind_operation.specs.declared.UnwindOperation.{UnwindOperation}
use Rattle.unwind_operation.specs.declared.UnwindOperation.TheVariants.{PushNonVolatile, Alloc, SetFPRegister, SaveNonVolatile, SaveXMM, Epilog, SaveXMM128, PushMachineFrame, Noop}
use Rattle.unwind_operation.specs.declared.UnwindCode.{UnwindCode}
use Rattle.unwind_array.specs.Arrays.{Frame, CodeArray, Arrays, all_of}
use Rattle.unwind_undo.specs.Undo.{place_of, is_set_frame}

-- it holds of every element
abbrev pub every : {A : Type 0} → (A → Bool) → List A → Bool
every p [] = true
every p (x ∷ xs) = p x && every p xs

-- it holds of one at least
abbrev pub some : {A : Type 0} → (A → Bool) → List A → Bool
some p [] = false
some p (x ∷ xs) = p x || some p xs

abbrev pub operations_of : List UnwindCode → List UnwindOperation
operations_of [] = []
operations_of (c ∷ cs) = c.operation ∷ operations_of cs

abbrev pub operations_in : List CodeArray → List UnwindOperation
operations_in [] = []
operations_in (a ∷ more) = operations_of a.codes ++ operations_in more

-- 17.14: all operations of the chain, the last of the prolog first
abbrev pub operations : Arrays → List UnwindOperation
operations a = operations_in (all_of a)

-- 17.1: order: in the prolog a machine frame (0) comes before pushes (1), these before allocations (2), these before a set frame (3), and that
-- before saves (4); there is one machine frame and one set frame at most. Epilogs and operations without effect have no place in it.
abbrev pub ranked : List UnwindOperation → List ℕ
ranked [] = []
ranked (PushNonVolatile r ∷ os) = 1 ∷ ranked os
ranked (Alloc n ∷ os) = 2 ∷ ranked os
ranked (SetFPRegister ∷ os) = 3 ∷ ranked os
ranked (SaveNonVolatile r o ∷ os) = 4 ∷ ranked os
ranked (SaveXMM r o ∷ os) = 4 ∷ ranked os
ranked (Epilog x y ∷ os) = ranked os
ranked (SaveXMM128 r o ∷ os) = 4 ∷ ranked os
ranked (PushMachineFrame e ∷ os) = 0 ∷ ranked os
ranked (Noop ∷ os) = ranked os

-- the second may come just before the first in the prolog
abbrev pub may_precede : ℕ → ℕ → Bool
may_precede a b = ltb b a || (eqb a b && not (eqb a 0 || eqb a 3))

abbrev pub descends : List ℕ → Bool
descends [] = true
descends (a ∷ []) = true
descends (a ∷ b ∷ rs) = may_precede a b && descends (b ∷ rs)

abbrev pub in_order : Arrays → Bool
in_order a = descends (ranked (operations a))

-- 17.2, 17.15: offsets: in an array, epilogs aside, code offsets never rise
abbrev pub is_epilog : UnwindOperation → Bool
is_epilog (PushNonVolatile r) = false
is_epilog (Alloc n) = false
is_epilog SetFPRegister = false
is_epilog (SaveNonVolatile r o) = false
is_epilog (SaveXMM r o) = false
is_epilog (Epilog x y) = true
is_epilog (SaveXMM128 r o) = false
is_epilog (PushMachineFrame e) = false
is_epilog Noop = false

abbrev pub offsets_of : List UnwindCode → List ℕ
offsets_of [] = []
offsets_of (c ∷ cs) = pick (is_epilog c.operation) (offsets_of cs) (c.code_offset ∷ offsets_of cs)

abbrev pub never_rise : List ℕ → Bool
never_rise [] = true
never_rise (a ∷ []) = true
never_rise (a ∷ b ∷ ns) = leb b a && never_rise (b ∷ ns)

abbrev pub offsets_fall : Arrays → Bool
offsets_fall a = every (λ x. never_rise (offsets_of x.codes)) (all_of a)

-- 17.3: prolog size: and none of them passes the prolog size
abbrev pub offsets_in_prolog : Arrays → Bool
offsets_in_prolog a = every (λ x. every (λ n. leb n x.prolog) (offsets_of x.codes)) (all_of a)

-- 17.4: epilogs are only at the start of an array
abbrev pub no_epilog : List UnwindCode → Bool
no_epilog [] = true
no_epilog (c ∷ cs) = not (is_epilog c.operation) && no_epilog cs

abbrev pub epilogs_at_start : List UnwindCode → Bool
epilogs_at_start [] = true
epilogs_at_start (c ∷ cs) = pick (is_epilog c.operation) (epilogs_at_start cs) (no_epilog cs)

abbrev pub epilogs_first : Arrays → Bool
epilogs_first a = every (λ x. epilogs_at_start x.codes) (all_of a)

-- 17.5: kinds: no save of half an XMM register, and nothing without effect
abbrev pub strict_kind : UnwindOperation → Bool
strict_kind (PushNonVolatile r) = true
strict_kind (Alloc n) = true
strict_kind SetFPRegister = true
strict_kind (SaveNonVolatile r o) = true
strict_kind (SaveXMM r o) = false
strict_kind (Epilog x y) = true
strict_kind (SaveXMM128 r o) = true
strict_kind (PushMachineFrame e) = true
strict_kind Noop = false

abbrev pub strict_kinds : Arrays → Bool
strict_kinds a = every strict_kind (operations a)

-- 17.6: agreement: all infos name the same frame register and offset
abbrev pub same_frame : Frame → CodeArray → Bool
same_frame f x = eqb x.frame.register f.register && eqb x.frame.offset f.offset

abbrev pub frames_agree : Arrays → Bool
frames_agree a = every (same_frame a.found.frame) a.outer

-- the frame register
abbrev pub frame_register_of : Arrays → ℕ
frame_register_of a = a.found.frame.register

-- 17.7: it is not RSP
abbrev pub frame_is_not_rsp : Arrays → Bool
frame_is_not_rsp a = not (eqb (frame_register_of a) 4)

-- 17.8: it is named exactly where there is a set frame
abbrev pub sets_frame : Arrays → Bool
sets_frame a = some is_set_frame (operations a)

abbrev pub same_truth : Bool → Bool → Bool
same_truth true b = b
same_truth false b = not b

abbrev pub frame_is_set : Arrays → Bool
frame_is_set a = same_truth (not (eqb (frame_register_of a) 0)) (sets_frame a)

-- 17.9: and it was pushed before: pushes come before a set frame
abbrev pub pushes : ℕ → UnwindOperation → Bool
pushes f (PushNonVolatile r) = eqb r.0 f
pushes f (Alloc n) = false
pushes f SetFPRegister = false
pushes f (SaveNonVolatile r o) = false
pushes f (SaveXMM r o) = false
pushes f (Epilog x y) = false
pushes f (SaveXMM128 r o) = false
pushes f (PushMachineFrame e) = false
pushes f Noop = false

abbrev pub frame_is_pushed : Arrays → Bool
frame_is_pushed a = eqb (frame_register_of a) 0 || some (pushes (frame_register_of a)) (operations a)

-- 17.10: RSP is never pushed or saved
abbrev pub spares_rsp : UnwindOperation → Bool
spares_rsp (PushNonVolatile r) = not (eqb r.0 4)
spares_rsp (Alloc n) = true
spares_rsp SetFPRegister = true
spares_rsp (SaveNonVolatile r o) = not (eqb r.0 4)
spares_rsp (SaveXMM r o) = true
spares_rsp (Epilog x y) = true
spares_rsp (SaveXMM128 r o) = true
spares_rsp (PushMachineFrame e) = true
spares_rsp Noop = true

abbrev pub rsp_is_spared : Arrays → Bool
rsp_is_spared a = every spares_rsp (operations a)

-- 17.11: allocations and places of general registers are multiples of 8, places of XMM registers of 16
abbrev pub aligned : UnwindOperation → Bool
aligned (PushNonVolatile r) = true
aligned (Alloc n) = eqb (n % 8) 0
aligned SetFPRegister = true
aligned (SaveNonVolatile r o) = eqb (place_of o % 8) 0
aligned (SaveXMM r o) = true
aligned (Epilog x y) = true
aligned (SaveXMM128 r o) = eqb (place_of o % 16) 0
aligned (PushMachineFrame e) = true
aligned Noop = true

abbrev pub all_aligned : Arrays → Bool
all_aligned a = every aligned (operations a)

-- 17.16: the bytes that a save takes above the end of the allocation: where they start, and how many they are
pub record Place : Type 0 where
  pub start : ℕ
  pub width : ℕ

abbrev pub places_of : List UnwindOperation → List Place
places_of [] = []
places_of (PushNonVolatile r ∷ os) = places_of os
places_of (Alloc n ∷ os) = places_of os
places_of (SetFPRegister ∷ os) = places_of os
places_of (SaveNonVolatile r o ∷ os) = record { start = place_of o; width = 8 } ∷ places_of os
places_of (SaveXMM r o ∷ os) = record { start = place_of o; width = 8 } ∷ places_of os
places_of (Epilog x y ∷ os) = places_of os
places_of (SaveXMM128 r o ∷ os) = record { start = place_of o; width = 16 } ∷ places_of os
places_of (PushMachineFrame e ∷ os) = places_of os
places_of (Noop ∷ os) = places_of os

-- 17.12: places of saves do not meet one another
abbrev pub apart : Place → Place → Bool
apart p q = leb (p.start + p.width) q.start || leb (q.start + q.width) p.start

abbrev pub pairwise_apart : List Place → Bool
pairwise_apart [] = true
pairwise_apart (p ∷ ps) = every (apart p) ps && pairwise_apart ps

abbrev pub places_apart : Arrays → Bool
places_apart a = pairwise_apart (places_of (operations a))

-- 17.13, 17.17: they lie within the allocation or, without a machine frame, within the 32 bytes above the return address
abbrev pub allocated : List UnwindOperation → ℕ
allocated [] = 0
allocated (PushNonVolatile r ∷ os) = allocated os
allocated (Alloc n ∷ os) = n + allocated os
allocated (SetFPRegister ∷ os) = allocated os
allocated (SaveNonVolatile r o ∷ os) = allocated os
allocated (SaveXMM r o ∷ os) = allocated os
allocated (Epilog x y ∷ os) = allocated os
allocated (SaveXMM128 r o ∷ os) = allocated os
allocated (PushMachineFrame e ∷ os) = allocated os
allocated (Noop ∷ os) = allocated os

abbrev pub pushed : List UnwindOperation → ℕ
pushed [] = 0
pushed (PushNonVolatile r ∷ os) = 8 + pushed os
pushed (Alloc n ∷ os) = pushed os
pushed (SetFPRegister ∷ os) = pushed os
pushed (SaveNonVolatile r o ∷ os) = pushed os
pushed (SaveXMM r o ∷ os) = pushed os
pushed (Epilog x y ∷ os) = pushed os
pushed (SaveXMM128 r o ∷ os) = pushed os
pushed (PushMachineFrame e ∷ os) = pushed os
pushed (Noop ∷ os) = pushed os

abbrev pub is_machine_frame : UnwindOperation → Bool
is_machine_frame (PushNonVolatile r) = false
is_machine_frame (Alloc n) = false
is_machine_frame SetFPRegister = false
is_machine_frame (SaveNonVolatile r o) = false
is_machine_frame (SaveXMM r o) = false
is_machine_frame (Epilog x y) = false
is_machine_frame (SaveXMM128 r o) = false
is_machine_frame (PushMachineFrame e) = true
is_machine_frame Noop = false

abbrev pub in_allocation : List UnwindOperation → Place → Bool
in_allocation os p = leb (p.start + p.width) (allocated os)

abbrev pub in_home : List UnwindOperation → Place → Bool
in_home os p =
    not (some is_machine_frame os)
    && (leb (allocated os + pushed os + 8) p.start && leb (p.start + p.width) (allocated os + pushed os + 40))

abbrev pub places_inside : Arrays → Bool
places_inside a = every (λ p. in_allocation (operations a) p || in_home (operations a) p) (places_of (operations a))

-- 17.1 to 17.13: the conditions in order
abbrev pub conditions : Arrays → List Bool
conditions a =
    in_order a
    ∷ offsets_fall a
    ∷ offsets_in_prolog a
    ∷ epilogs_first a
    ∷ strict_kinds a
    ∷ frames_agree a
    ∷ frame_is_not_rsp a
    ∷ frame_is_set a
    ∷ frame_is_pushed a
    ∷ rsp_is_spared a
    ∷ all_aligned a
    ∷ places_apart a
    ∷ places_inside a
    ∷ []

-- the number of the first that fails, from 1 on; 0 where none does
abbrev pub first_failing : ℕ → List Bool → ℕ
first_failing n [] = 0
first_failing n (t ∷ ts) = pick t (first_failing (suc n) ts) n

unfoldable pub failing_of : Arrays → ℕ
failing_of a = first_failing 1 (conditions a)

-- all of them hold
unfoldable pub strict : Arrays → Bool
strict a = every (λ t. t) (conditions a)
