-- A member of a fat file: the record fat_arch, and the check of where the member ends (mach-o/fat.h; mach/machine.h). The definitions take
-- the fields of the form as a parameter.
-- Assumes nothing.
use Rattle.std.specs.Prelude.{Result, Ok, Err, ℕ, ◌+◌, ◌/◌, ◌%◌, ◌≤◌, List, [], ◌∷◌, ◌++◌, true, length, leb, eqb}
use Rattle.answer.specs.declared.Refusal.{Refusal}
use Rattle.answer.specs.Answer.{past_file}
use Rattle.answer.specs.Test.{must}
use Rattle.layout.specs.Layout.{Field, field, up_to, after, bytes_in, the, reading}
use Rattle.fat_member.specs.declared.FatArch.{FatArch}

-- 4.11: offset, width, name
abbrev pub fat_arch : List Field
fat_arch =
    field 0 4 "cputype" ∷ field 4 4 "cpusubtype" ∷ field 8 4 "offset" ∷ field 12 4 "size" ∷ field 16 4 "align" ∷ []

-- 5.7, 5.8, 5.9: a member, from the numbers of its fields: the top 8 bits of the subtype are its capabilities, and bit 0x01000000 of the
-- cputype says whether it is 64-bit
abbrev pub arch_of : List Field → List ℕ → FatArch
arch_of arch ns =
    record {
      cputype = the arch "cputype" ns;
      cpusubtype = the arch "cpusubtype" ns % 0x01000000;
      caps = the arch "cpusubtype" ns / 0x01000000;
      offset = the arch "offset" ns;
      size = the arch "size" ns;
      align = the arch "align" ns;
      is_64 = eqb (the arch "cputype" ns / 0x01000000 % 2) 1;
    }

-- 4.7, 5.5, 5.6, 5.13: the member at `at` of the file `s`, in a form whose fields are `arch`: it ends within the file, or is 14 before its
-- align is read; the sum is a number without bound
unfoldable pub read_of : List Field → List ℕ → ℕ → Result FatArch Refusal
read_of arch s at =
    reading Err true (up_to "size" arch) s at
    (λ ns.
    must Err (leb (the arch "offset" ns + the arch "size" ns) (length s)) past_file
    (reading Err true (after "size" arch) s (at + bytes_in (up_to "size" arch))
    (λ ms. Ok (arch_of arch (ns ++ ms)))))

-- 5.5: the member, if there is one, ends within the file
abbrev pub Inside : List ℕ → Result FatArch Refusal → Type 0
Inside s (Ok m) = m.offset + m.size ≤ length s
Inside s (Err k) = Unit
