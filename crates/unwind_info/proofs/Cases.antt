-- `read_info_of` on small inputs, by computation: the examples of 10.5, 10.14 and 11.16 among them.
-- Assumes nothing.
use Rattle.unwind_info.specs.declared.UnwindInfo.{UnwindInfo}
use Rattle.std.specs.Prelude.{Result, Ok, Err}
use Rattle.answer.specs.declared.Refusal.{Refusal}
use mathlib.Core.Path.{◌≡◌, refl}
use mathlib.Core.List.{List, [], ◌∷◌, ◌++◌}
use Prim.Native.Nat.{ℕ}
use Rattle.answer.specs.Answer.{refuse_of, short, version, cut_of, beyond_of}
use Rattle.answer.specs.Test.{must}
use Rattle.fields.specs.Number.{number_at}
use Rattle.fields.specs.Field.{read_of as field_of}
use Rattle.layout.specs.Layout.{read_by, bytes_in}
use Rattle.runtime_function.specs.RuntimeFunction.{read_of as record_at}
use Rattle.unwind_operation.specs.Operation.{general}
use Rattle.unwind_info.specs.Unwind.{fields, with_slots, rest_at, read_header_of, handler_at, chained_at, read_follows_of, read_info_of}
use Rattle.unwind_info.specs.declared.HandlerKind.{HandlerKind}
use Rattle.unwind_info.specs.declared.HandlerKind.TheVariants.{Exception, Termination}
use Rattle.unwind_info.specs.declared.Follows.{Follows}
use Rattle.unwind_info.specs.declared.Follows.TheVariants.{Nothing, Chained, Handler}

four_bytes : bytes_in fields ≡ 4
four_bytes = refl

-- an info at offset 0, by its numbers; what follows is at `next`
abbrev is : ℕ → ℕ → ℕ → ℕ → ℕ → ℕ → ℕ → Follows → Result UnwindInfo Refusal
is version flags prolog count register offset next follows =
    Ok (record {
      header = record {
        version = version;
        flags = flags;
        size_of_prolog = prolog;
        count_of_codes = count;
        frame_register = general register;
        frame_register_offset = offset;
        code_start = 4;
        follows_at = next;
      };
      follows = follows;
    })

-- a handler at 0x12345678
abbrev handler : HandlerKind → ℕ → ℕ → Follows
handler kind start length = Handler (record { kind = kind; address = 0x12345678; start = start; length = length })

-- a chained record, each of its addresses 0x12345678
abbrev chain : Follows
chain = Chained (record { begin = 0x12345678; end = 0x12345678; unwind = 0x12345678 })

-- 0x12345678, the least significant byte first
abbrev word : List ℕ
word = 120 ∷ 86 ∷ 52 ∷ 18 ∷ []

-- `01 04 01 00 04 42 00 00`
alloc_40 : read_info_of (1 ∷ 4 ∷ 1 ∷ 0 ∷ 4 ∷ 66 ∷ 0 ∷ 0 ∷ []) 0 ≡ is 1 0 4 1 0 0 8 Nothing
unfolding read_info_of must read_header_of rest_at read_by number_at with_slots read_follows_of handler_at chained_at field_of record_at cut_of beyond_of
alloc_40 = refl

-- `01 04 02 00 04 01 06 00`
alloc_48 : read_info_of (1 ∷ 4 ∷ 2 ∷ 0 ∷ 4 ∷ 1 ∷ 6 ∷ 0 ∷ []) 0 ≡ is 1 0 4 2 0 0 8 Nothing
unfolding read_info_of must read_header_of rest_at read_by number_at with_slots read_follows_of handler_at chained_at field_of record_at cut_of beyond_of
alloc_48 = refl

-- flags 1 and 2 are both set: an exception handler
first_byte_19 : read_info_of ((25 ∷ 0 ∷ 0 ∷ 0 ∷ []) ++ word ++ (7 ∷ [])) 0 ≡ is 1 3 0 0 0 0 4 (handler Exception 8 1)
unfolding read_info_of must read_header_of rest_at read_by number_at with_slots read_follows_of handler_at chained_at field_of record_at cut_of beyond_of
first_byte_19 = refl

-- chained
first_byte_21 : read_info_of ((33 ∷ 0 ∷ 0 ∷ 0 ∷ []) ++ word ++ word ++ word) 0 ≡ is 1 4 0 0 0 0 4 chain
unfolding read_info_of must read_header_of rest_at read_by number_at with_slots read_follows_of handler_at chained_at field_of record_at cut_of beyond_of
first_byte_21 = refl

-- refused before the bytes after it are missed
first_byte_03 : read_info_of (3 ∷ []) 0 ≡ Err (refuse_of version)
unfolding read_info_of must read_header_of rest_at read_by number_at with_slots read_follows_of handler_at chained_at field_of record_at cut_of beyond_of
first_byte_03 = refl

version_0 : read_info_of (0 ∷ []) 0 ≡ Err (refuse_of version)
unfolding read_info_of must read_header_of rest_at read_by number_at with_slots read_follows_of handler_at chained_at field_of record_at cut_of beyond_of
version_0 = refl

-- a version 2 at the end of the file
version_2 : read_info_of (2 ∷ 0 ∷ 0 ∷ 0 ∷ []) 0 ≡ is 2 0 0 0 0 0 4 Nothing
unfolding read_info_of must read_header_of rest_at read_by number_at with_slots read_follows_of handler_at chained_at field_of record_at cut_of beyond_of
version_2 = refl

-- flag 4 and the handler flags: chained
all_flags_chained : read_info_of ((57 ∷ 0 ∷ 0 ∷ 0 ∷ []) ++ word ++ word ++ word) 0 ≡ is 1 7 0 0 0 0 4 chain
unfolding read_info_of must read_header_of rest_at read_by number_at with_slots read_follows_of handler_at chained_at field_of record_at cut_of beyond_of
all_flags_chained = refl

termination : read_info_of ((17 ∷ 0 ∷ 0 ∷ 0 ∷ []) ++ word) 0 ≡ is 1 2 0 0 0 0 4 (handler Termination 8 0)
unfolding read_info_of must read_header_of rest_at read_by number_at with_slots read_follows_of handler_at chained_at field_of record_at cut_of beyond_of
termination = refl

-- flags without meaning
flags_above_4 : read_info_of (193 ∷ 0 ∷ 0 ∷ 0 ∷ []) 0 ≡ is 1 24 0 0 0 0 4 Nothing
unfolding read_info_of must read_header_of rest_at read_by number_at with_slots read_follows_of handler_at chained_at field_of record_at cut_of beyond_of
flags_above_4 = refl

-- an unused slot, and the handler after it
handler_after_an_odd_count : read_info_of ((9 ∷ 0 ∷ 1 ∷ 0 ∷ 4 ∷ 66 ∷ 170 ∷ 187 ∷ []) ++ word ++ (1 ∷ 2 ∷ [])) 0 ≡ is 1 1 0 1 0 0 8
    (handler Exception 12 2)
unfolding read_info_of must read_header_of rest_at read_by number_at with_slots read_follows_of handler_at chained_at field_of record_at cut_of beyond_of
handler_after_an_odd_count = refl

-- an odd count at the end of the file
unused_slot_missing : read_info_of (1 ∷ 4 ∷ 1 ∷ 0 ∷ 4 ∷ 66 ∷ []) 0 ≡ is 1 0 4 1 0 0 8 Nothing
unfolding read_info_of must read_header_of rest_at read_by number_at with_slots read_follows_of handler_at chained_at field_of record_at cut_of beyond_of
unused_slot_missing = refl

handler_without_the_unused_slot : read_info_of ((9 ∷ 0 ∷ 1 ∷ 0 ∷ 4 ∷ 66 ∷ []) ++ word) 0 ≡ Err (refuse_of short)
unfolding read_info_of must read_header_of rest_at read_by number_at with_slots read_follows_of handler_at chained_at field_of record_at cut_of beyond_of
handler_without_the_unused_slot = refl

-- the frame offset is reported also where the register is 0
frame : read_info_of (1 ∷ 0 ∷ 0 ∷ 240 ∷ []) 0 ≡ is 1 0 0 0 0 240 4 Nothing
unfolding read_info_of must read_header_of rest_at read_by number_at with_slots read_follows_of handler_at chained_at field_of record_at cut_of beyond_of
frame = refl

frame_register_lem : read_info_of (1 ∷ 0 ∷ 0 ∷ 37 ∷ []) 0 ≡ is 1 0 0 0 5 32 4 Nothing
unfolding read_info_of must read_header_of rest_at read_by number_at with_slots read_follows_of handler_at chained_at field_of record_at cut_of beyond_of
frame_register_lem = refl

nothing_there : read_info_of ([]) 0 ≡ Err (refuse_of short)
unfolding read_info_of must read_header_of rest_at read_by number_at with_slots read_follows_of handler_at chained_at field_of record_at cut_of beyond_of
nothing_there = refl

three_bytes : read_info_of (1 ∷ 0 ∷ 0 ∷ []) 0 ≡ Err (refuse_of short)
unfolding read_info_of must read_header_of rest_at read_by number_at with_slots read_follows_of handler_at chained_at field_of record_at cut_of beyond_of
three_bytes = refl

-- all the slots are there before one is decoded
slots_cut : read_info_of (1 ∷ 0 ∷ 2 ∷ 0 ∷ 0 ∷ 15 ∷ []) 0 ≡ Err (refuse_of short)
unfolding read_info_of must read_header_of rest_at read_by number_at with_slots read_follows_of handler_at chained_at field_of record_at cut_of beyond_of
slots_cut = refl

chained_cut : read_info_of ((33 ∷ 0 ∷ 0 ∷ 0 ∷ []) ++ word ++ word ++ (1 ∷ 2 ∷ 3 ∷ [])) 0 ≡ Err (refuse_of short)
unfolding read_info_of must read_header_of rest_at read_by number_at with_slots read_follows_of handler_at chained_at field_of record_at cut_of beyond_of
chained_cut = refl

handler_cut : read_info_of (9 ∷ 0 ∷ 0 ∷ 0 ∷ 1 ∷ 2 ∷ 3 ∷ []) 0 ≡ Err (refuse_of short)
unfolding read_info_of must read_header_of rest_at read_by number_at with_slots read_follows_of handler_at chained_at field_of record_at cut_of beyond_of
handler_cut = refl

far_past_the_file : read_info_of (1 ∷ 0 ∷ 0 ∷ 0 ∷ []) 18446744073709551615 ≡ Err (refuse_of short)
unfolding read_info_of must read_header_of rest_at read_by number_at with_slots read_follows_of handler_at chained_at field_of record_at cut_of beyond_of
far_past_the_file = refl
