-- `Theorems` is what a reader comes for; `Laws` has what proofs cite; `Cases` computes the definitions on small inputs.
pub mod Laws
pub mod Theorems
mod Cases
