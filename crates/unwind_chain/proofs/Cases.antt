-- The definitions on small images, by computation: 32 links pass, 33 are 8, and the order of refusals.
-- Assumes nothing.
use Rattle.unwind_chain.specs.declared.Totals.{Totals}
use Rattle.std.specs.Prelude.{Result, Ok, Err}
use Rattle.answer.specs.declared.Refusal.{Refusal}
use mathlib.Core.Path.{◌≡◌, refl}
use mathlib.Core.List.{List, [], ◌∷◌, ◌++◌}
use mathlib.Core.Bool.{true, false}
use Prim.Native.Nat.{ℕ, zero, suc, ◌+◌}
use Rattle.answer.specs.Answer.{refuse_of, short, no_section, operation, links, cut_of, beyond_of}
use Rattle.answer.specs.Test.{must}
use Rattle.fields.specs.Number.{number_at, bytes_of}
use Rattle.fields.specs.Field.{read_of as field_of}
use Rattle.layout.specs.Layout.{read_by, numbers_at}
use Rattle.pe_section.specs.Section.{read_of as row_at}
use Rattle.pe_mapping.specs.Mapping.{up, power_below, readable_size, holds, first_of as first_section, find_offset_of}
use Rattle.pe_mapping.specs.declared.Sections.{Sections}
use Rattle.runtime_function.specs.RuntimeFunction.{read_of as record_at}
use Rattle.runtime_function.specs.declared.RuntimeFunction.{RuntimeFunction}
use Rattle.unwind_operation.specs.Operation.{general, form_of, in_slots, in_two, in_three, next_code_of}
use Rattle.unwind_operation.specs.declared.UnwindOperation.{UnwindOperation}
use Rattle.unwind_operation.specs.declared.UnwindOperation.TheVariants.{PushNonVolatile, Alloc}
use Rattle.unwind_info.specs.Unwind.{with_slots, rest_at, read_header_of, handler_at, chained_at, read_follows_of, read_info_of}
use Rattle.unwind_info.specs.declared.Follows.TheVariants.{Nothing, Chained}
use Rattle.unwind_codes.specs.Codes.{codes_from, codes_at, codes_of, whole_info_at}
use Rattle.unwind_links.specs.Links.{record_at_of, place_of, locate_from, locate_info_of, info_at}
use Rattle.unwind_chain.specs.Chain.{link_at, chain_from, count_all_codes_of}
use Rattle.unwind_chain.specs.Cursor.{start_chain_of, code_in, code_at, after_codes, next_chain_code_of}
use Rattle.unwind_chain.specs.declared.ChainCursor.{ChainCursor}
use Rattle.unwind_chain.specs.declared.NextChainCode.{NextChainCode}
use Rattle.unwind_chain.specs.declared.NextChainCode.TheVariants as next

-- a row of a section that maps each address below 4096 to itself
abbrev row : List ℕ
row =
    bytes_of false 8 0
    ++ bytes_of false 4 0
    ++ bytes_of false 4 0
    ++ bytes_of false 4 4096
    ++ bytes_of false 4 0
    ++ bytes_of false 4 0
    ++ bytes_of false 4 0
    ++ bytes_of false 2 0
    ++ bytes_of false 2 0
    ++ bytes_of false 4 0

abbrev one : Sections
one = record { table = 0; count = 1; alignment = 512 }

abbrev from : ℕ → RuntimeFunction
from unwind = record { begin = 100; end = 200; unwind = unwind }

abbrev totals : ℕ → ℕ → Result Totals Refusal
totals links codes = Ok (record { links = links; codes = codes })

-- a record after the codes of a chained info
abbrev to : ℕ → List ℕ
to unwind = bytes_of false 4 1 ++ bytes_of false 4 2 ++ bytes_of false 4 unwind

-- `n` infos from `at` on, each of which is chained to the next
abbrev chain : ℕ → ℕ → List ℕ
chain zero at = []
chain (suc n) at = (33 ∷ 0 ∷ 0 ∷ 0 ∷ []) ++ to (at + 16) ++ chain n (at + 16)

-- the info "alloc 40", and one whose code is refused
abbrev alloc : List ℕ
alloc = 1 ∷ 4 ∷ 1 ∷ 0 ∷ 4 ∷ 66 ∷ 0 ∷ 0 ∷ []

abbrev bad : List ℕ
bad = 1 ∷ 4 ∷ 1 ∷ 0 ∷ 4 ∷ 15 ∷ 0 ∷ 0 ∷ []

-- a chained info with one code, "push rbx", and one whose code is refused
abbrev push : List ℕ
push = 33 ∷ 0 ∷ 1 ∷ 0 ∷ 8 ∷ 48 ∷ 0 ∷ 0 ∷ []

abbrev bad_push : List ℕ
bad_push = 33 ∷ 0 ∷ 1 ∷ 0 ∷ 8 ∷ 15 ∷ 0 ∷ 0 ∷ []

-- a chained info with two codes
abbrev two : List ℕ
two = 33 ∷ 0 ∷ 2 ∷ 0 ∷ 8 ∷ 48 ∷ 4 ∷ 2 ∷ []

record Counts : Type 0 where
  no_links : count_all_codes_of (row ++ alloc) one (from 40) ≡ totals 0 1
  thirty_two_links : count_all_codes_of (row ++ chain 32 40 ++ alloc) one (from 40) ≡ totals 32 1
  thirty_three_links : count_all_codes_of (row ++ chain 33 40 ++ alloc) one (from 40) ≡ Err (refuse_of links)
  -- an odd address and 31 chained infos, and one more
  odd_and_chained : count_all_codes_of (row ++ to 52 ++ chain 31 52 ++ alloc) one (from 41) ≡ totals 32 1
  odd_and_chained_over : count_all_codes_of (row ++ to 52 ++ chain 32 52 ++ alloc) one (from 41) ≡ Err (refuse_of links)
  -- two codes and a chained info with one
  codes_of_all_lem : count_all_codes_of (row ++ two ++ to 60 ++ alloc) one (from 40) ≡ totals 1 3
  chained_code_refused : count_all_codes_of (row ++ chain 1 40 ++ bad) one (from 40) ≡ Err (refuse_of operation)
  -- a code is refused before the link after it, which lies in no section; and with a code that is decoded, it does
  code_before_the_link : count_all_codes_of (row ++ bad_push ++ to 5000) one (from 40) ≡ Err (refuse_of operation)
  link_in_no_section : count_all_codes_of (row ++ push ++ to 5000) one (from 40) ≡ Err (refuse_of no_section)
  -- the 33rd is 8 after the codes of the info that asks for it, and before anything after it is mapped
  codes_before_the_limit : count_all_codes_of (row ++ chain 32 40 ++ bad_push ++ to 5000) one (from 40) ≡ Err (refuse_of operation)
  limit_before_the_section : count_all_codes_of (row ++ chain 32 40 ++ push ++ to 5000) one (from 40) ≡ Err (refuse_of links)
  record_refers_to_itself : count_all_codes_of (row ++ to 41) one (from 41) ≡ Err (refuse_of links)
  info_chained_to_itself : count_all_codes_of (row ++ (33 ∷ 0 ∷ 0 ∷ 0 ∷ []) ++ to 40) one (from 40) ≡ Err (refuse_of links)
  chain_field_missing : count_all_codes_of (row ++ (33 ∷ 0 ∷ 0 ∷ 0 ∷ [])) one (from 40) ≡ Err (refuse_of short)

counts : Counts
unfolding chain_from link_at must locate_info_of locate_from place_of record_at_of find_offset_of power_below first_section row_at holds readable_size up
    read_by number_at numbers_at bytes_of record_at field_of whole_info_at read_header_of rest_at with_slots read_follows_of handler_at chained_at
    codes_of codes_at codes_from next_code_of form_of in_slots in_two in_three cut_of beyond_of
counts =
    record {
      no_links = refl;
      thirty_two_links = refl;
      thirty_three_links = refl;
      odd_and_chained = refl;
      odd_and_chained_over = refl;
      codes_of_all_lem = refl;
      chained_code_refused = refl;
      code_before_the_link = refl;
      link_in_no_section = refl;
      codes_before_the_limit = refl;
      limit_before_the_section = refl;
      record_refers_to_itself = refl;
      info_chained_to_itself = refl;
      chain_field_missing = refl;
    }

-- an image of two infos, the second with one code
abbrev image : List ℕ
image = row ++ two ++ to 60 ++ alloc

-- the cursors on the way: at each slot of the first info, and of the second
abbrev first : ℕ → ChainCursor
first slot =
    record {
      header = record {
        version = 1;
        flags = 4;
        size_of_prolog = 0;
        count_of_codes = 2;
        frame_register = general 0;
        frame_register_offset = 0;
        code_start = 44;
        follows_at = 48;
      };
      follows = Chained (record { begin = 1; end = 2; unwind = 60 });
      links = 0;
      found = true;
      slot = slot;
    }

abbrev second : ℕ → ChainCursor
second slot =
    record {
      header = record {
        version = 1;
        flags = 0;
        size_of_prolog = 4;
        count_of_codes = 1;
        frame_register = general 0;
        frame_register_offset = 0;
        code_start = 64;
        follows_at = 68;
      };
      follows = Nothing;
      links = 1;
      found = false;
      slot = slot;
    }

abbrev taken : ℕ → UnwindOperation → ChainCursor → Result NextChainCode Refusal
taken offset o k = Ok (next.Code (record { code = record { code_offset = offset; operation = o }; next = k }))

record Steps : Type 0 where
  starts : start_chain_of image one (from 40) ≡ Ok (record { begin = 100; cursor = first 0 })
  first_code : next_chain_code_of image one (first 0) ≡ taken 8 (PushNonVolatile (general 3)) (first 1)
  second_code : next_chain_code_of image one (first 1) ≡ taken 4 (Alloc 8) (first 2)
  next_info : next_chain_code_of image one (first 2) ≡ Ok (next.Info (second 0))
  last_code : next_chain_code_of image one (second 0) ≡ taken 4 (Alloc 40) (second 1)
  ends : next_chain_code_of image one (second 1) ≡ Ok next.End
  -- a forged slot after the last is the end of the info; slots that are not in the file are 1
  far_slot : next_chain_code_of image one (second 1000) ≡ Ok next.End
  no_slots : next_chain_code_of row one (first 0) ≡ Err (refuse_of short)

steps : Steps
unfolding next_chain_code_of code_at code_in after_codes info_at read_info_of must locate_info_of locate_from place_of record_at_of find_offset_of power_below
    first_section row_at holds readable_size up read_by number_at numbers_at bytes_of record_at field_of read_header_of rest_at with_slots read_follows_of
    handler_at chained_at next_code_of form_of in_slots in_two in_three cut_of beyond_of
steps =
    record {
      starts = refl;
      first_code = refl;
      second_code = refl;
      next_info = refl;
      last_code = refl;
      ends = refl;
      far_slot = refl;
      no_slots = refl;
    }
