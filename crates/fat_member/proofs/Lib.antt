-- `Theorems` is what a reader comes for; `Laws` has what the proofs of readers cite; `Cases` computes the definition on small files.
pub mod Laws
pub mod Theorems
mod Cases
