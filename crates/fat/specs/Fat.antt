-- A fat file: a fat_header, then the fat_archs that it counts, and what each door answers (mach-o/fat.h).
-- Assumes nothing.
use Rattle.std.specs.Prelude.{Result, Ok, Err, ℕ, zero, suc, ◌+◌, List, [], ◌∷◌, ◌++◌, true, length, take, drop, leb, eqb}
use Rattle.answer.specs.Answer.{on_ok, refuse_of, magic, limit, not_found}
use Rattle.answer.specs.Test.{must, in_limit}
use Rattle.answer.specs.declared.Refusal.{Refusal}
use Rattle.layout.specs.Layout.{Field, field, up_to, after, bytes_in, the, reading}
use Rattle.fat_member.specs.FatArch.{fat_arch, read_of}
use Rattle.fat_member.specs.declared.FatArch.{FatArch}

-- 4.10: offset, width, name
abbrev pub fat_header : List Field
fat_header = field 0 4 "magic" ∷ field 4 4 "nfat_arch" ∷ []

-- 5.2: FAT_MAGIC
abbrev pub fat_magic : ℕ
fat_magic = 0xCAFEBABE

-- 1.3: a fat file has at most 32 members
abbrev pub member_limit : ℕ
member_limit = 32

-- 3.1, 5.2, 5.4: how many members the header counts: the file's length (3), the magic (1, 2), then the count (1, 3)
unfoldable pub header_in : List ℕ → Result ℕ Refusal
header_in s =
    in_limit Err s
    (reading Err true (up_to "magic" fat_header) s 0
    (λ ns.
    must Err (eqb (the fat_header "magic" ns) fat_magic) magic
    (reading Err true (after "magic" fat_header) s (bytes_in (up_to "magic" fat_header))
    (λ ms.
    must Err (leb (the fat_header "nfat_arch" (ns ++ ms)) member_limit) limit
    (Ok (the fat_header "nfat_arch" (ns ++ ms)))))))

-- what a fat file holds: its members in order, or why it is refused
pub data Held : Type 0 where
  members : List FatArch → Held
  refused : Refusal → Held

-- a member before others
abbrev pub more : FatArch → Held → Held
more m (members ms) = members (m ∷ ms)
more m (refused k) = refused k

-- 3.3, 5.1: `n` members of a form whose fields are `fs`, the first at `at`, in file order: the first that is refused refuses
unfoldable pub members_at : List Field → ℕ → List ℕ → ℕ → Held
members_at fs zero s at = members []
members_at fs (suc n) s at =
    on_ok (read_of fs s at) refused (λ m. more m (members_at fs n s (at + bytes_in fs)))

-- 5.1, 5.10: the file: the header, then the members that it counts
unfoldable pub held_in : List ℕ → Held
held_in s = on_ok (header_in s) refused (λ n. members_at fat_arch n s (bytes_in fat_header))

-- how many members there are
abbrev pub count_of : Held → Result ℕ Refusal
count_of (members ms) = Ok (length ms)
count_of (refused k) = Err k

-- 5.3, 5.10: what opening answers
unfoldable pub open_of : List ℕ → Result ℕ Refusal
open_of s = count_of (held_in s)

-- 3.8: the member with that index, from 0 on; at or after the count it is 10
abbrev pub nth : List FatArch → ℕ → Result FatArch Refusal
nth [] i = Err (refuse_of not_found)
nth (m ∷ ms) zero = Ok m
nth (m ∷ ms) (suc i) = nth ms i

abbrev pub nth_of : Held → ℕ → Result FatArch Refusal
nth_of (members ms) i = nth ms i
nth_of (refused k) i = Err k

-- 5.11: what asking for a member answers: the file opens, then the index is looked at
unfoldable pub member_at_of : List ℕ → ℕ → Result FatArch Refusal
member_at_of s i = nth_of (held_in s) i

-- 5.12: the bytes of a member; a refusal has none
abbrev pub bytes_at_of : List ℕ → Result FatArch Refusal → List ℕ
bytes_at_of s (Ok m) = take m.size (drop m.offset s)
bytes_at_of s (Err k) = []

-- 5.12: where they are, from where the file is: `offset` bytes on; with a refusal, where the file starts
abbrev pub start_of : ℕ × ℕ → Result FatArch Refusal → ℕ × ℕ
start_of p (Ok m) = (p.0, p.1 + m.offset)
start_of p (Err k) = p
