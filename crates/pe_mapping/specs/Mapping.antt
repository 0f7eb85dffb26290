-- Which section holds an address, and the file offset that it maps it to.
-- Assumes nothing.
use Rattle.std.specs.Prelude.{Result, Ok, Err, ℕ, zero, suc, ◌+◌, ◌-◌, ◌*◌, ◌/◌, ◌^◌, min, List, Bool, true, false, leb, ltb, eqb}
use Rattle.answer.specs.Answer.{on_ok, refuse_of, limit, no_section}
use Rattle.answer.specs.declared.Refusal.{Refusal}
use Rattle.answer.specs.Test.{pick, must, in_limit}
use Rattle.pe_section.specs.Section.{read_of, section_limit}
use Rattle.pe_section.specs.declared.SectionTable.{SectionTable}
use Rattle.pe_mapping.specs.declared.Sections.{Sections}

-- rounded down to a multiple of `m`
abbrev pub down : ℕ → ℕ → ℕ
down m n = n / m * m

-- rounded up to a multiple of `m`
unfoldable pub up : ℕ → ℕ → ℕ
up m n = (n + m - 1) / m * m

-- whether it is 2 ^ k for some k below `top`
unfoldable pub power_below : ℕ → ℕ → Bool
power_below zero n = false
power_below (suc k) n = pick (eqb n (2 ^ k)) true (power_below k n)

-- 7.5: whether a number of 32 bits is a power of two
abbrev pub power_of_two : ℕ → Bool
power_of_two n = power_below 32 n

-- 7.10: raw pointer plus raw size, rounded up to the file alignment, less the raw pointer rounded down to a multiple of 512;
-- 7.11: at most the raw size rounded up to a multiple of 4,096
abbrev pub readable_in_file : ℕ → SectionTable → ℕ
readable_in_file alignment h =
    min
    (up alignment (h.pointer_to_raw_data + h.size_of_raw_data) - down 512 h.pointer_to_raw_data)
    (up 4096 h.size_of_raw_data)

-- 7.9: nothing where the raw size is 0; 7.11: at most the virtual size rounded up to a multiple of 4,096, unless that size is 0
unfoldable pub readable_size : ℕ → SectionTable → ℕ
readable_size alignment h =
    pick (eqb h.size_of_raw_data 0)
    0
    (pick (eqb h.virtual_size 0) (readable_in_file alignment h) (min (readable_in_file alignment h) (up 4096 h.virtual_size)))

-- 7.8: whether the section holds the address: from its virtual address on, and before the end of its readable size
unfoldable pub holds : ℕ → SectionTable → ℕ → Bool
holds alignment h address =
    pick (leb h.virtual_address address)
    (ltb address (h.virtual_address + readable_size alignment h))
    false

-- 7.12: the file offset of an address that the section holds: the raw pointer, not rounded, plus the distance
abbrev pub offset_in : SectionTable → ℕ → ℕ
offset_in h address = h.pointer_to_raw_data + (address - h.virtual_address)

-- 7.6: the first of `n` rows from `at` that holds the address gives its offset; 7.7: a row that is looked at and not whole is 1, and 5
-- where no row holds it
unfoldable pub first_of : ℕ → List ℕ → ℕ → ℕ → ℕ → Result ℕ Refusal
first_of zero s at alignment address = Err (refuse_of no_section)
first_of (suc n) s at alignment address =
    on_ok (read_of s at) Err
    (λ h. pick (holds alignment h address) (Ok (offset_in h address)) (first_of n s (at + 40) alignment address))

-- 7.4: the file offset of an address, by a section table
unfoldable pub find_offset_of : List ℕ → Sections → ℕ → Result ℕ Refusal
find_offset_of s sections address =
    -- 3.1: the file's length comes first
    in_limit Err s
    -- 1.2: a count above 96 is 3
    (must Err (leb sections.count section_limit) limit
    -- 7.5: an alignment that is no power of two maps nothing: 5
    (must Err (power_of_two sections.alignment) no_section
    (first_of sections.count s sections.table sections.alignment address)))
