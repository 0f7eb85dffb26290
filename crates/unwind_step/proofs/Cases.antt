-- The step on small images, by computation.
-- Assumes nothing.
use Rattle.std.specs.Prelude.{Some, None}
use mathlib.Core.Path.{◌≡◌, refl}
use mathlib.Core.List.{List, [], ◌∷◌, ◌++◌}
use mathlib.Core.Bool.{false}
use Prim.Native.Nat.{ℕ}
use lib.ListN.{replicate}
use Rattle.answer.specs.Answer.{refuse_of, stack, cut_of, beyond_of}
use Rattle.answer.specs.Test.{must}
use Rattle.fields.specs.Number.{number_at, bytes_of}
use Rattle.fields.specs.Field.{read_of as field_of}
use Rattle.layout.specs.Layout.{read_by, numbers_at}
use Rattle.pe_section.specs.Section.{read_of as row_at}
use Rattle.pe_mapping.specs.Mapping.{up, power_below, readable_size, holds, first_of as first_section, find_offset_of}
use Rattle.runtime_function.specs.RuntimeFunction.{read_of as record_at}
use Rattle.runtime_table.specs.Table.{table_of, get_entry_of}
use Rattle.exception_data.specs.declared.RecordForm.TheVariants.{X64}
use Rattle.exception_data.specs.declared.ExceptionData.{ExceptionData}
use Rattle.runtime_lookup.specs.Halving.{among, search_from, halving}
use Rattle.runtime_lookup.specs.Lookup.{sought_at, find_function_of}
use Rattle.unwind_operation.specs.Operation.{form_of, in_slots, in_two, in_three, next_code_of}
use Rattle.unwind_info.specs.Unwind.{with_slots, rest_at, read_header_of, handler_at, chained_at, read_follows_of}
use Rattle.unwind_codes.specs.Codes.{codes_from, codes_at, codes_of, whole_info_at}
use Rattle.unwind_links.specs.Links.{place_of, locate_from, locate_info_of}
use Rattle.unwind_array.specs.Arrays.{joined_of}
use Rattle.unwind_chain.specs.Chain.{link_at, chain_from}
use Rattle.unwind_state.specs.State.{word_at}
use Rattle.unwind_state.specs.declared.State.{State}
use Rattle.unwind_undo.specs.Undo.{undo_of, last_step, undo_from, unwind_of}
use Rattle.unwind_undo.specs.Distance.{undone_of}
use Rattle.unwind_step.specs.Step.{relative_address_of, refused_step, done_step, found_of, step_of}

-- a row of a section that maps each address below 4096 to itself
abbrev row : List ℕ
row =
    bytes_of false 8 0
    ++ bytes_of false 4 0
    ++ bytes_of false 4 0
    ++ bytes_of false 4 4096
    ++ bytes_of false 4 0
    ++ bytes_of false 4 0
    ++ bytes_of false 4 0
    ++ bytes_of false 2 0
    ++ bytes_of false 2 0
    ++ bytes_of false 4 0

-- an image: the row, the info `01 04 01 00 04 42 00 00` at 40, and at 48 a table of one record, from 100 to 200
abbrev image : List ℕ
image = row ++ (1 ∷ 4 ∷ 1 ∷ 0 ∷ 4 ∷ 0x42 ∷ 0 ∷ 0 ∷ []) ++ bytes_of false 4 100 ++ bytes_of false 4 200 ++ bytes_of false 4 40

abbrev opened : ExceptionData
opened = record { form = X64; table = 48; count = 1; sections = record { table = 0; count = 1; alignment = 512 } }

-- registers with this RSP and this RIP, the others 0
abbrev at : ℕ → ℕ → State
at rsp rip = record { gpr = 0 ∷ 0 ∷ 0 ∷ 0 ∷ rsp ∷ replicate 11 0; rip = rip; xmm = replicate 32 0 }

module _ (a b c d e f : ℕ) where
  -- stack words from 0x1000 on
  abbrev words : List ℕ
  words = a ∷ b ∷ c ∷ d ∷ e ∷ f ∷ []

  -- 16.32: at distance 4 RIP is the word at 0x1028, and RSP becomes 0x1030
  distance_4 : step_of image opened 104 (at 0x1000 7) words 0x1000 ≡ done_step (at 0x1030 f)
  unfolding step_of found_of find_function_of sought_at get_entry_of table_of halving among search_from must record_at read_by bytes_of number_at
      numbers_at cut_of beyond_of chain_from link_at locate_info_of locate_from place_of find_offset_of first_section holds readable_size power_below up
      row_at field_of whole_info_at read_header_of rest_at with_slots read_follows_of chained_at handler_at codes_of codes_at codes_from next_code_of form_of
      in_slots in_two in_three joined_of undone_of unwind_of undo_from undo_of last_step word_at
  distance_4 = refl

  -- 16.32: at distance 3 RIP is the word at 0x1000, and RSP becomes 0x1008
  distance_3 : step_of image opened 103 (at 0x1000 7) words 0x1000 ≡ done_step (at 0x1008 a)
  unfolding step_of found_of find_function_of sought_at get_entry_of table_of halving among search_from must record_at read_by bytes_of number_at
      numbers_at cut_of beyond_of chain_from link_at locate_info_of locate_from place_of find_offset_of first_section holds readable_size power_below up
      row_at field_of whole_info_at read_header_of rest_at with_slots read_follows_of chained_at handler_at codes_of codes_at codes_from next_code_of form_of
      in_slots in_two in_three joined_of undone_of unwind_of undo_from undo_of last_step word_at
  distance_3 = refl

  -- 16.11: an address before the record is a leaf
  leaf : step_of image opened 99 (at 0x1000 7) words 0x1000 ≡ done_step (at 0x1008 a)
  unfolding step_of find_function_of table_of halving among search_from must record_at read_by bytes_of number_at numbers_at cut_of beyond_of get_entry_of
      last_step word_at
  leaf = refl

  -- 16.7, 16.3: a word one past the window is 12, and the registers are as they were
  one_short : step_of image opened 104 (at 0x1000 7) (a ∷ b ∷ c ∷ d ∷ e ∷ []) 0x1000 ≡ refused_step (at 0x1000 7) (refuse_of stack)
  unfolding step_of found_of find_function_of sought_at get_entry_of table_of halving among search_from must record_at read_by bytes_of number_at
      numbers_at cut_of beyond_of chain_from link_at locate_info_of locate_from place_of find_offset_of first_section holds readable_size power_below up
      row_at field_of whole_info_at read_header_of rest_at with_slots read_follows_of chained_at handler_at codes_of codes_at codes_from next_code_of form_of
      in_slots in_two in_three joined_of undone_of unwind_of undo_from undo_of last_step word_at
  one_short = refl

  -- 16.6: so is a window that is not at a multiple of 8
  unaligned : step_of image opened 104 (at 0x1000 7) words 0xFFC ≡ refused_step (at 0x1000 7) (refuse_of stack)
  unfolding step_of found_of find_function_of sought_at get_entry_of table_of halving among search_from must record_at read_by bytes_of number_at
      numbers_at cut_of beyond_of chain_from link_at locate_info_of locate_from place_of find_offset_of first_section holds readable_size power_below up
      row_at field_of whole_info_at read_header_of rest_at with_slots read_follows_of chained_at handler_at codes_of codes_at codes_from next_code_of form_of
      in_slots in_two in_three joined_of undone_of unwind_of undo_from undo_of last_step word_at
  unaligned = refl

-- 16.9: the base itself is 0, 2 ^ 32 - 1 above it is the last address, and an address below it is outside
at_base : relative_address_of 0x140000000 0x140000000 ≡ Some 0
unfolding relative_address_of
at_base = refl

last_inside : relative_address_of 0x23FFFFFFF 0x140000000 ≡ Some 0xFFFFFFFF
unfolding relative_address_of
last_inside = refl

first_outside : relative_address_of 0x240000000 0x140000000 ≡ None
unfolding relative_address_of
first_outside = refl

below_base : relative_address_of 0x13FFFFFFF 0x140000000 ≡ None
unfolding relative_address_of
below_base = refl
