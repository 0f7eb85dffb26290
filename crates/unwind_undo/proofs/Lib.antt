-- `Theorems` and `Kept` are what a reader comes for: what undoing comes to, and which registers it leaves; `Laws` has what the proofs of
-- functions cite.
pub mod Theorems
pub mod Kept
pub mod Laws
