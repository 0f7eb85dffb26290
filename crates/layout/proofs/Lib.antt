-- `Theorems` is what a reader comes for; `Laws` has what proofs of readers and writers of records cite; `Cases` computes small tables.
pub mod Laws
pub mod Theorems
mod Cases
