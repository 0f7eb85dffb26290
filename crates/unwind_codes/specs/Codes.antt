-- The codes of an unwind info (Microsoft, "x64 exception handling", struct UNWIND_CODE), as a list of operations; an info with all its codes;
-- and the code at an index.
-- Assumes nothing.
use Rattle.unwind_codes.specs.declared.CheckedInfo.{CheckedInfo}
use Rattle.std.specs.Prelude.{Result, Ok, Err, ℕ, zero, suc, ◌-◌, ◌*◌, List, [], ◌∷◌, length, take, drop, leb}
use Rattle.answer.specs.Answer.{on_ok, refuse_of, not_found}
use Rattle.answer.specs.Test.{pick, in_limit}
use Rattle.answer.specs.declared.Refusal.{Refusal}
use Rattle.unwind_operation.specs.Operation.{slot_count, next_code_of}
use Rattle.unwind_operation.specs.declared.UnwindCode.{UnwindCode}
use Rattle.unwind_info.specs.Unwind.{read_header_of, read_follows_of, info_of}
use Rattle.unwind_info.specs.declared.UnwindHeader.{UnwindHeader}
use Rattle.unwind_info.specs.declared.UnwindInfo.{UnwindInfo}

-- how the array ends: each slot belongs to an operation of the list, or the operation after the last of the list is refused
pub data CodesEnd : Type 0 where
  whole : CodesEnd
  stopped : Refusal → CodesEnd

abbrev pub on_codes_end : {A : Type 0} → CodesEnd → (Refusal → A) → A → A
on_codes_end whole refusal on = on
on_codes_end (stopped k) refusal on = refusal k

-- the operations in array order, up to the end or the first that is refused
pub record Codes : Type 0 where
  pub listed : List UnwindCode
  pub end : CodesEnd

abbrev pub finished : Codes
finished = record { listed = []; end = whole }

abbrev pub refused_here : Refusal → Codes
refused_here k = record { listed = []; end = stopped k }

abbrev pub preceded : UnwindCode → Codes → Codes
preceded c cs = record { listed = c ∷ cs.listed; end = cs.end }

-- 11.9: at most `n` operations from the slot at `at` on
unfoldable pub codes_from : ℕ → List ℕ → ℕ → ℕ → ℕ → Codes
codes_from zero s at v frame = finished
codes_from (suc n) s at v frame =
    pick (leb (slot_count s) at) finished
    (on_ok (next_code_of s at v frame) refused_here (λ t. preceded t.code (codes_from n s t.next v frame)))

-- 11.9: all operations from the slot at `at` on; each takes a slot at least, so there are no more than slots
unfoldable pub codes_at : List ℕ → ℕ → ℕ → ℕ → Codes
codes_at s at v frame = codes_from (slot_count s - at) s at v frame

-- 10.4: the slots of an info, by themselves
abbrev pub slots_of : List ℕ → UnwindHeader → List ℕ
slots_of s h = take (2 * h.count_of_codes) (drop h.code_start s)

-- 11.9: the codes of an info
unfoldable pub codes_of : List ℕ → UnwindHeader → Codes
codes_of s h = codes_at (slots_of s h) 0 h.version h.frame_register.0

-- an info with all its codes, or its first refusal
pub data WholeInfo : Type 0 where
  has : UnwindInfo → List UnwindCode → WholeInfo
  refused_whole : Refusal → WholeInfo

abbrev pub on_whole_info : {A : Type 0} → WholeInfo → (Refusal → A) → (UnwindInfo → List UnwindCode → A) → A
on_whole_info (has i cs) refusal on = on i cs
on_whole_info (refused_whole k) refusal on = refusal k

-- 11.12: the info at `at` with its codes: the file's length, the header with its slots, the codes in array order, then what follows them
unfoldable pub whole_info_at : List ℕ → ℕ → WholeInfo
whole_info_at s at =
    in_limit refused_whole s
    (on_ok (read_header_of s at) refused_whole (λ h.
    on_codes_end (codes_of s h).end refused_whole
    (on_ok (read_follows_of s h.follows_at h.flags) refused_whole (λ f. has (info_of h f) (codes_of s h).listed))))

-- the info and the number of its codes
abbrev pub checked_of : WholeInfo → Result CheckedInfo Refusal
checked_of w = on_whole_info w Err (λ i cs. Ok (record { info = i; codes = length cs }))

-- 11.12: an info with all its codes decoded, and their number
abbrev pub check_info_of : List ℕ → ℕ → Result CheckedInfo Refusal
check_info_of s at = checked_of (whole_info_at s at)

-- the code at an index: there it is, there are fewer, or one at or before the index is refused
pub data Nth : Type 0 where
  here : UnwindCode → Nth
  fewer : Nth
  refused_before : Refusal → Nth

-- 11.14: after the list, how the array ends decides
abbrev pub nth_by : CodesEnd → List UnwindCode → ℕ → Nth
nth_by e [] i = on_codes_end e refused_before fewer
nth_by e (c ∷ cs) zero = here c
nth_by e (c ∷ cs) (suc i) = nth_by e cs i

abbrev pub nth_of : Codes → ℕ → Nth
nth_of cs i = nth_by cs.end cs.listed i

-- 11.13: an index at or after the number of operations is refused with 10, once all else has passed
abbrev pub on_nth : Nth → (Result UnwindCode Refusal → Result UnwindCode Refusal) → Result UnwindCode Refusal
on_nth (here c) on = on (Ok c)
on_nth fewer on = on (Err (refuse_of not_found))
on_nth (refused_before k) on = Err k

-- 11.13: the operation at an index of the info at `at`: those up to it are decoded, then what follows the codes is read
unfoldable pub read_code_of : List ℕ → ℕ → ℕ → Result UnwindCode Refusal
read_code_of s at i =
    in_limit Err s
    (on_ok (read_header_of s at) Err (λ h.
    on_nth (nth_of (codes_of s h) i) (λ answer. on_ok (read_follows_of s h.follows_at h.flags) Err (λ f. answer))))
