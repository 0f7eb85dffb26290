-- `Theorems` is what a reader comes for; `Winner` says which row wins; `Laws` has what proofs cite; `Cases` computes the definitions on
-- small inputs.
pub mod Laws
pub mod Winner
pub mod Theorems
mod Cases
