-- `Theorem` is what a reader comes for, and `Conditions` which conditions of a strict prolog it needs; `Walk` uses it frame by frame; `Cases` has
-- runs that meet its hypotheses, over `Samples`; `Written` shows that the machine writes what its definitions name, `Decoded` that decoded codes
-- are small.
--
-- The proof: `Acts` has a prolog as a list of acts, `Runs` the registers after acts, `Words` the words that they put down, `Back` that undoing
-- gives back what they owe, `Base` which rules for the base of a save serve; `Codes` takes the codes of a chain to acts, `Cross` the conditions
-- of a strict prolog, `Ran` what has run at a distance; `Chain` puts all together, and `Windows` has windows.
pub mod Acts
pub mod Runs
pub mod Words
pub mod Back
pub mod Base
pub mod Codes
pub mod Cross
pub mod Ran
pub mod Chain
pub mod Windows
pub mod Theorem
pub mod Walk
pub mod Written
pub mod Decoded
mod Samples
mod Cases
mod Conditions
