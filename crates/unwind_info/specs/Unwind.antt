-- The unwind info (Microsoft, "x64 exception handling", struct UNWIND_INFO): its header, its slots, and what follows them. Its codes are
-- not decoded here.
-- Assumes nothing.
use Rattle.std.specs.Prelude.{Result, Ok, Err, ℕ, ◌+◌, ◌-◌, ◌*◌, ◌/◌, ◌%◌, List, [], ◌∷◌, Bool, false, length, leb, eqb}
use Rattle.answer.specs.Answer.{on_ok, cut_of, version}
use Rattle.answer.specs.declared.Refusal.{Refusal}
use Rattle.answer.specs.Test.{pick, must, in_limit}
use Rattle.fields.specs.Field.{read_of as field_of}
use Rattle.layout.specs.Layout.{Field, field, the, up_to, after, bytes_in, reading}
use Rattle.runtime_function.specs.RuntimeFunction.{read_of as record_at}
use Rattle.unwind_operation.specs.Operation.{known_version_of, general}
use Rattle.unwind_info.specs.declared.UnwindHeader.{UnwindHeader}
use Rattle.unwind_info.specs.declared.UnwindInfo.{UnwindInfo}
use Rattle.unwind_info.specs.declared.HandlerKind.{HandlerKind}
use Rattle.unwind_info.specs.declared.HandlerKind.TheVariants.{Exception, Termination}
use Rattle.unwind_info.specs.declared.Follows.{Follows}
use Rattle.unwind_info.specs.declared.Follows.TheVariants.{Nothing, Chained, Handler}

-- 4.17: offset, width, name
abbrev pub fields : List Field
fields =
    field 0 1 "Version and flags"
    ∷ field 1 1 "Size of prolog"
    ∷ field 2 1 "Count of unwind codes"
    ∷ field 3 1 "Frame register and frame register offset"
    ∷ []

-- the first byte, and the three after it
abbrev pub first : List Field
first = up_to "Version and flags" fields

abbrev pub others : List Field
others = after "Version and flags" fields

-- 10.1: the version is the low three bits of the first byte
abbrev pub version_of : List ℕ → ℕ
version_of ns = the fields "Version and flags" ns % 8

-- 10.6: an odd count has one unused slot after it
abbrev pub with_unused : ℕ → ℕ
with_unused count = count + count % 2

-- 10.1, 10.2, 10.3, 10.4, 10.6: the numbers of the fields, as the header whose slots start at `start`
abbrev pub header_of : ℕ → List ℕ → UnwindHeader
header_of start ns =
    record {
      version = version_of ns;
      flags = the fields "Version and flags" ns / 8;
      size_of_prolog = the fields "Size of prolog" ns;
      count_of_codes = the fields "Count of unwind codes" ns;
      frame_register = general (the fields "Frame register and frame register offset" ns % 16);
      frame_register_offset = 16 * (the fields "Frame register and frame register offset" ns / 16 % 16);
      code_start = start;
      follows_at = start + 2 * with_unused (the fields "Count of unwind codes" ns);
    }

-- where the slots of an info end
abbrev pub codes_end : UnwindHeader → ℕ
codes_end h = h.code_start + 2 * h.count_of_codes

-- 10.5: all slots are there, else 1
unfoldable pub with_slots : List ℕ → UnwindHeader → Result UnwindHeader Refusal
with_slots s h = pick (leb (codes_end h) (length s)) (Ok h) (Err (cut_of (codes_end h)))

-- the header after its first byte, `byte`
unfoldable pub rest_at : List ℕ → ℕ → ℕ → Result UnwindHeader Refusal
rest_at s at byte = reading Err false others s at (λ ns. with_slots s (header_of (at + bytes_in others) (byte ∷ ns)))

-- 10.1, 10.5, 10.12, 10.15: the header at `at`; a version other than 1 and 2 is refused with 6 before the next byte is read
unfoldable pub read_header_of : List ℕ → ℕ → Result UnwindHeader Refusal
read_header_of s at =
    reading Err false first s at (λ ns.
    must Err (known_version_of (version_of ns)) version
    (rest_at s (at + bytes_in first) (the fields "Version and flags" ns)))

-- 10.8: flag 1
abbrev pub exception_flag : ℕ → Bool
exception_flag flags = eqb (flags % 2) 1

-- 10.8: flag 2
abbrev pub termination_flag : ℕ → Bool
termination_flag flags = eqb (flags / 2 % 2) 1

-- 10.7: flag 4
abbrev pub chain_flag : ℕ → Bool
chain_flag flags = eqb (flags / 4 % 2) 1

-- 10.8, 10.9: the address of a handler, and its data up to the end of the file
abbrev pub handler_of : List ℕ → ℕ → HandlerKind → ℕ → Follows
handler_of s at kind address = Handler (record { kind = kind; address = address; start = at + 4; length = length s - (at + 4) })

unfoldable pub handler_at : List ℕ → ℕ → HandlerKind → Result Follows Refusal
handler_at s at kind = field_of (λ address. Ok (handler_of s at kind address)) Err false 4 s at

-- 10.7: the runtime record that an info is chained to
unfoldable pub chained_at : List ℕ → ℕ → Result Follows Refusal
chained_at s at = on_ok (record_at s at) Err (λ e. Ok (Chained e))

-- 10.7, 10.8, 10.10, 10.15: what follows the codes, at `at`. With flag 4, flags 1 and 2 are ignored; with flag 1, flag 2 is; without these, nothing is
-- read there.
unfoldable pub read_follows_of : List ℕ → ℕ → ℕ → Result Follows Refusal
read_follows_of s at flags =
    pick (chain_flag flags) (chained_at s at)
    (pick (exception_flag flags) (handler_at s at Exception)
    (pick (termination_flag flags) (handler_at s at Termination) (Ok Nothing)))

abbrev pub info_of : UnwindHeader → Follows → UnwindInfo
info_of h f = record { header = h; follows = f }

-- 10.11: the unwind info at `at`: the file's length, the header with its slots, then what follows them
unfoldable pub read_info_of : List ℕ → ℕ → Result UnwindInfo Refusal
read_info_of s at =
    in_limit Err s
    (on_ok (read_header_of s at) Err (λ h.
    on_ok (read_follows_of s h.follows_at h.flags) Err (λ f. Ok (info_of h f))))
