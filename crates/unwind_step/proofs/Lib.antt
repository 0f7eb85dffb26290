-- `Theorems` is what a reader comes for; `Laws` has what the proofs of functions cite; `Cases` computes the step on small images.
pub mod Theorems
pub mod Laws
mod Cases
