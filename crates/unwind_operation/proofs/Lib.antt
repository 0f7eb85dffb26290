-- `Theorems` is what a reader comes for; `Laws` has what proofs cite; `Cases` and `NamesCases` compute the definitions on small inputs.
pub mod Laws
pub mod Theorems
mod Cases
mod NamesCases
