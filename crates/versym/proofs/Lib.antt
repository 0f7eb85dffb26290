-- `Theorems` is what a reader comes for; `Laws` has what the proofs of the doors on a file cite; `Cases` computes the definitions on small
-- inputs.
pub mod Laws
pub mod Theorems
mod Cases
