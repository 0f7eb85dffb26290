-- What the author of a driver may rely on, on every input: statements over the definitions that the functions answer, each proved in one
-- line by a theorem of the crate that it is about. Each supposes that the bytes stay as they are from one call to the next.
-- Assumes nothing.
use Rattle.std.specs.Prelude.{Ok, Err}
use mathlib.Core.Path.{◌≡◌}
use mathlib.Core.Logic.{◌⊎◌}
use mathlib.Core.List.{List, ◌++◌, ◌∷◌}
use mathlib.Core.Bool.{Bool}
use Prim.Native.Nat.{ℕ, ◌+◌, ◌*◌, ◌≤◌, ◌<◌}
use lib.ListN.{length, get_or, take, drop}
use Rattle.answer.specs.Answer.{number}
use Rattle.answer.specs.Test.{file_limit}
use Rattle.answer.specs.declared.Refusal.{Refusal}
use Rattle.layout.specs.Layout.{size}
use Rattle.fat_member.specs.declared.FatArch.{FatArch}
use Rattle.fat.specs.Fat.{open_of as open_fat_of, member_at_of, bytes_at_of}
use Rattle.fat.proofs.Terms.{Header, Good}
use Rattle.fat.proofs.Theorems.{good_opened, opened_good, found_within, part_of_file}
use Rattle.pe_header.specs.Header.{open_of as open_header_of}
use Rattle.pe_header.specs.Answers.{answer_open_header}
use Rattle.pe_header.proofs.Theorems.{cut_anywhere}
use Rattle.pe_mapping.specs.declared.Sections.{Sections}
use Rattle.runtime_function.specs.declared.RuntimeFunction.{RuntimeFunction}
use Rattle.runtime_table.specs.Table.{table_of}
use Rattle.exception_data.specs.Exception.{open_of}
use Rattle.exception_data.specs.declared.ExceptionData.{ExceptionData}
use Rattle.exception_data.proofs.Theorems.{Opens, open_told, told_open, opened_lies}
use Rattle.runtime_lookup.specs.Halving.{halving}
use Rattle.runtime_lookup.specs.Lookup.{find_function_of, read_limit}
use Rattle.runtime_lookup.proofs.Theorems.{Exact, opened_exact, reads_26}
use Rattle.unwind_chain.specs.Chain.{Chain, chain, chain_of, last_links}
use Rattle.unwind_chain.proofs.Theorems.{chain_few}
use Rattle.unwind_chain.proofs.Walk.{Walked, chain_walked}
use Rattle.version_record.specs.Record.{layout}
use Rattle.version_record.specs.declared.VersionRecord.{VersionRecord}
use Rattle.version_list.specs.List.{row_at, entries_from, list_of, list_out}
use Rattle.version_list.proofs.Theorems.{Each, at_most_stated, entries_inside, refused_leaves}

-- 3.6: A file that is cut anywhere is answered as the whole file is, or with 1: no other answer comes of cutting.
pub cut_answers_one : (s : List ℕ) (n : ℕ) → length s ≤ file_limit
    → (open_header_of (take n s) ≡ open_header_of s) ⊎ (number (answer_open_header (open_header_of (take n s))) ≡ 1)
cut_answers_one = cut_anywhere

-- 8.1 to 8.8: Opening accepts an image only where `Opens` holds: its headers are sound and x64's, its exception directory is there and
-- holds whole records, a section maps it to a multiple of 4, and the records are in order and lie in the file..
pub opening_accepts : (s : List ℕ) (opened : ExceptionData) → Ok opened ≡ open_of s → Opens s opened
opening_accepts = open_told

-- ..and everywhere there.
pub opening_accepts_all : (s : List ℕ) (opened : ExceptionData) → Opens s opened → Ok opened ≡ open_of s
opening_accepts_all = told_open

-- 8.7: An opened table lies in the file.
pub opened_table_lies : (s : List ℕ) (opened : ExceptionData) → Ok opened ≡ open_of s → 0 < opened.count
    → opened.table + 12 * opened.count ≤ length s
opened_table_lies = opened_lies

-- 9.2: A lookup in what was opened finds exactly when a record holds the address, and it is the one record that holds it..
pub lookup_is_exact : (s : List ℕ) (opened : ExceptionData) (address : ℕ) → Ok opened ≡ open_of s
    → Exact s opened address (find_function_of s opened address)
lookup_is_exact = opened_exact

-- ..1.6: and it reads 26 records at most, whatever the table and the bytes are.
pub lookup_reads_26 : (s : List ℕ) (table count address : ℕ) → length s ≤ file_limit
    → (halving (table_of s table) address count).reads ≤ read_limit
lookup_reads_26 = reads_26

-- 12.6: From a record to its infos: 33 at most, over 32 links at most..
pub chains_are_short : (s : List ℕ) (sections : Sections) (r : RuntimeFunction) (c : Chain) → chain c ≡ chain_of s sections r
    → (length (c.found ∷ c.outer) ≤ 33) × (last_links c.found c.outer ≤ 32)
chains_are_short = chain_few

-- ..and to its operations: the cursor gives each code of each info, in order, once, and is never refused on the way.
pub cursor_gives_every_code : (s : List ℕ) (sections : Sections) (r : RuntimeFunction) (c : Chain) → chain c ≡ chain_of s sections r
    → Walked s sections r c
cursor_gives_every_code = chain_walked

-- 5.10: A fat file opens where its header is right and each of its members is accepted..
pub fat_opens : (s : List ℕ) (n : ℕ) → Header s n → ((i : ℕ) → i < n → Good s i) → Ok n ≡ open_fat_of s
fat_opens = good_opened

-- ..and nowhere else.
pub fat_opened : (s : List ℕ) (n : ℕ) → Ok n ≡ open_fat_of s → Header s n × ((i : ℕ) → i < n → Good s i)
fat_opened = opened_good

-- 5.12: Each member that is shown lies in the file, and with what is before it and after it makes the file.
pub members_lie : (s : List ℕ) (i : ℕ) (m : FatArch) → member_at_of s i ≡ Ok m → m.offset + m.size ≤ length s
members_lie = found_within

pub members_are_the_file : (s : List ℕ) (i : ℕ) (m : FatArch) → member_at_of s i ≡ Ok m
    → take m.offset s ++ bytes_at_of s (member_at_of s i) ++ drop (m.offset + m.size) s ≡ s
members_are_the_file = part_of_file

-- 14.8: A version list has no more entries than are stated..
pub lists_are_short : (k : VersionRecord) (big : Bool) (s : List ℕ) (stated at : ℕ) → length (entries_from k big s stated at).rows ≤ stated
lists_are_short = at_most_stated

-- ..14.9: each of them lies in the section, and is the record at its place..
pub entries_lie : (k : VersionRecord) (big : Bool) (s : List ℕ) (stated at : ℕ)
    → Each (λ r. (get_or r 0 0 + size (layout k) ≤ length s) × (r ≡ row_at k big s (get_or r 0 0))) (entries_from k big s stated at).rows
entries_lie = entries_inside

-- ..2.3: and where the list is refused, what was lent for it is as it was.
pub refused_lists_write_nothing : (k : VersionRecord) (big : Bool) (file : List ℕ) (start len stated at : ℕ) (o : List ℕ) {q : Refusal}
    → list_of k big file start len stated at o ≡ Err q → list_out k big file start len stated at o ≡ o
refused_lists_write_nothing = refused_leaves
