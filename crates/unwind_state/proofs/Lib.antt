-- `Theorems` is what a reader comes for; `Laws` has what the proofs of functions cite.
pub mod Theorems
pub mod Laws
