-- `Theorems` is what a reader comes for, in the words of `Terms`; `Laws` has what the proofs of the doors cite; `Cases` computes the
-- definitions on small files.
pub mod Terms
pub mod Laws
pub mod Theorems
mod Cases
