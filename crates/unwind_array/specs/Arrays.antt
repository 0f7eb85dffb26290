-- The codes of a record's chain: an array for each of its infos, and the one list that they join to. An array need not come from bytes.
-- Assumes nothing.
use Rattle.std.specs.Prelude.{ℕ, List, [], ◌∷◌, ◌++◌, Bool, true, false}
use Rattle.unwind_operation.specs.declared.UnwindCode.{UnwindCode}

-- the frame register that an info names, 0 where it names none, and its frame offset in bytes
pub record Frame : Type 0 where
  pub register : ℕ
  pub offset : ℕ

-- the codes of one info in array order, and what of its header they go by
pub record CodeArray : Type 0 where
  pub frame : Frame
  pub prolog : ℕ
  pub codes : List UnwindCode

-- the array of the found info, and that of each info that it is chained to, in order: there is always one
pub record Arrays : Type 0 where
  pub found : CodeArray
  pub outer : List CodeArray

-- all of them, the found info's first
abbrev pub all_of : Arrays → List CodeArray
all_of a = a.found ∷ a.outer

-- a code in the one list: the frame and the prolog of its own info, whether that is the found one, and whether the code is the first of
-- its array
pub record ChainCode : Type 0 where
  pub code : UnwindCode
  pub frame : Frame
  pub prolog : ℕ
  pub found : Bool
  pub first : Bool

-- the codes of an array from the one on that is the first or not
abbrev pub codes_from : Frame → ℕ → Bool → Bool → List UnwindCode → List ChainCode
codes_from frame prolog found first [] = []
codes_from frame prolog found first (c ∷ cs) =
    record { code = c; frame = frame; prolog = prolog; found = found; first = first } ∷ codes_from frame prolog found false cs

abbrev pub codes_in : Bool → CodeArray → List ChainCode
codes_in found a = codes_from a.frame a.prolog found true a.codes

abbrev pub outer_codes : List CodeArray → List ChainCode
outer_codes [] = []
outer_codes (a ∷ more) = codes_in false a ++ outer_codes more

-- 12.12: the one list: the found info's codes in array order, then those of each chained info
unfoldable pub joined_of : Arrays → List ChainCode
joined_of a = codes_in true a.found ++ outer_codes a.outer
