-- `Theorems` is what a reader comes for; `Parts` says what an accepted file's answer is made of, `Prefix` what the front of a file answers;
-- `Laws` has what proofs cite; `Cases` computes the definition on small inputs.
pub mod Laws
pub mod Prefix
pub mod Parts
pub mod Theorems
mod Cases
