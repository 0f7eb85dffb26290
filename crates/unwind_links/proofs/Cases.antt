-- The definitions on a small image, by computation: 32 links pass, 33 are 8.
-- Assumes nothing.
use Rattle.std.specs.Prelude.{Ok, Err, Some, None}
use mathlib.Core.Path.{◌≡◌, refl}
use mathlib.Core.List.{List, [], ◌∷◌, ◌++◌}
use mathlib.Core.Bool.{false}
use Prim.Native.Nat.{ℕ, zero, suc, ◌+◌, ◌*◌}
use Rattle.answer.specs.Answer.{refuse_of, short, no_section, links, cut_of}
use Rattle.answer.specs.Test.{must}
use Rattle.fields.specs.Number.{number_at, bytes_of}
use Rattle.fields.specs.Field.{read_of as field_of}
use Rattle.layout.specs.Layout.{read_by}
use Rattle.pe_section.specs.Section.{read_of as row_at}
use Rattle.pe_mapping.specs.Mapping.{up, power_below, readable_size, holds, first_of as first_section, find_offset_of}
use Rattle.pe_mapping.specs.declared.Sections.{Sections}
use Rattle.runtime_function.specs.RuntimeFunction.{read_of as record_at}
use Rattle.runtime_function.specs.declared.RuntimeFunction.{RuntimeFunction}
use Rattle.unwind_operation.specs.Operation.{general}
use Rattle.unwind_info.specs.Unwind.{with_slots, rest_at, read_header_of, chained_at, handler_at, read_follows_of, read_info_of}
use Rattle.unwind_info.specs.declared.UnwindHeader.{UnwindHeader}
use Rattle.unwind_info.specs.declared.Follows.TheVariants.{Nothing, Chained}
use Rattle.unwind_links.specs.Links.{record_at_of, place_of, locate_from, locate_info_of, info_at, first_info_of, next_info_of}
use Rattle.unwind_links.specs.declared.InfoPlace.{InfoPlace}
use Rattle.unwind_links.specs.declared.ReachedInfo.{ReachedInfo}

-- a row of a section that maps each address below 4096 to itself
abbrev row : List ℕ
row =
    bytes_of false 8 0
    ++ bytes_of false 4 0
    ++ bytes_of false 4 0
    ++ bytes_of false 4 4096
    ++ bytes_of false 4 0
    ++ bytes_of false 4 0
    ++ bytes_of false 4 0
    ++ bytes_of false 2 0
    ++ bytes_of false 2 0
    ++ bytes_of false 4 0

abbrev one : Sections
one = record { table = 0; count = 1; alignment = 512 }

-- a record that begins at `begin`
abbrev to : ℕ → ℕ → List ℕ
to begin unwind = bytes_of false 4 begin ++ bytes_of false 4 0 ++ bytes_of false 4 unwind

-- `n` records from `at` on, each of which refers to the next by an odd address
abbrev chain : ℕ → ℕ → List ℕ
chain zero at = []
chain (suc n) at = to n (at + 13) ++ chain n (at + 12)

-- a record that names the info `01 00 00 00` after it, `n` others before it
abbrev image : ℕ → List ℕ
image n = row ++ chain n 40 ++ to 7 (52 + 12 * n) ++ (1 ∷ 0 ∷ 0 ∷ 0 ∷ [])

-- the record at 40 of an image: it begins at 7
abbrev lone : ℕ → List ℕ
lone unwind = row ++ to 7 unwind

-- the 33rd link would be to an address that lies in no section
abbrev away : List ℕ
away = row ++ chain 31 40 ++ to 7 0xFFFF_FFFF

-- a record that refers to the first of them, by the first link
abbrev start : RuntimeFunction
start = record { begin = 100; end = 200; unwind = 41 }

abbrev place : ℕ → ℕ → InfoPlace
place offset links = record { begin = 7; offset = offset; links = links }

abbrev header : ℕ → ℕ → UnwindHeader
header flags offset =
    record {
      version = 1;
      flags = flags;
      size_of_prolog = 0;
      count_of_codes = 0;
      frame_register = general 0;
      frame_register_offset = 0;
      code_start = offset + 4;
      follows_at = offset + 4;
    }

abbrev at : ℕ → ℕ → ReachedInfo
at offset links = record { place = place offset links; info = record { header = header 0 offset; follows = Nothing } }

-- the info at 52, chained to a record
abbrev chained : ℕ → ℕ → ReachedInfo
chained links unwind =
    record {
      place = place 52 links;
      info = record { header = header 4 52; follows = Chained (record { begin = 7; end = 0; unwind = unwind }) };
    }

record Firsts : Type 0 where
  one_link : first_info_of (image 0) one start ≡ Ok (at 52 1)
  thirty_two_links : first_info_of (image 31) one start ≡ Ok (at 424 32)
  thirty_three_links : first_info_of (image 32) one start ≡ Err (refuse_of links)
  record_refers_to_itself : first_info_of (lone 41) one start ≡ Err (refuse_of links)
  -- the 33rd is 8 before it is mapped
  thirty_third_not_mapped : first_info_of away one start ≡ Err (refuse_of links)
  -- 5, of a record and of an info
  record_unmapped : first_info_of (lone 4097) one start ≡ Err (refuse_of no_section)
  info_unmapped : first_info_of (lone 4096) one start ≡ Err (refuse_of no_section)
  -- mapped, and past the file
  record_cut : first_info_of (lone 43) one start ≡ Err (refuse_of short)
  info_cut : first_info_of (lone 4094) one start ≡ Err (refuse_of short)
  -- where the links that led here are told
  one_link_left : locate_info_of (image 0) one start 31 ≡ Ok (place 52 32)
  no_link_left : locate_info_of (image 0) one start 32 ≡ Err (refuse_of links)
  more_than_the_limit : locate_info_of (image 0) one start 33 ≡ Err (refuse_of links)

firsts : Firsts
unfolding info_at locate_info_of locate_from place_of record_at_of must find_offset_of power_below first_section row_at holds readable_size up
    read_by number_at bytes_of record_at field_of read_info_of read_header_of rest_at with_slots read_follows_of chained_at handler_at cut_of
firsts =
    record {
      one_link = refl;
      thirty_two_links = refl;
      thirty_three_links = refl;
      record_refers_to_itself = refl;
      thirty_third_not_mapped = refl;
      record_unmapped = refl;
      info_unmapped = refl;
      record_cut = refl;
      info_cut = refl;
      one_link_left = refl;
      no_link_left = refl;
      more_than_the_limit = refl;
    }

record Nexts : Type 0 where
  not_chained : next_info_of (image 0) one (at 52 1) ≡ Ok None
  chained_to_an_info : next_info_of (image 0) one (chained 31 52) ≡ Ok (Some (at 52 32))
  -- an odd address after it is a link more
  chained_to_an_odd_address : next_info_of (image 0) one (chained 30 41) ≡ Ok (Some (at 52 32))
  odd_after_the_last : next_info_of (image 0) one (chained 31 41) ≡ Err (refuse_of links)
  chained_after_the_last : next_info_of (image 0) one (chained 32 52) ≡ Err (refuse_of links)
  -- a number of links that no chain gives
  more_than_the_limit : next_info_of (image 0) one (chained 0xFFFF_FFFF_FFFF_FFFF 52) ≡ Err (refuse_of links)

nexts : Nexts
unfolding next_info_of info_at locate_info_of locate_from place_of record_at_of must find_offset_of power_below first_section row_at holds readable_size up
    read_by number_at bytes_of record_at field_of read_info_of read_header_of rest_at with_slots read_follows_of chained_at handler_at cut_of
nexts =
    record {
      not_chained = refl;
      chained_to_an_info = refl;
      chained_to_an_odd_address = refl;
      odd_after_the_last = refl;
      chained_after_the_last = refl;
      more_than_the_limit = refl;
    }
