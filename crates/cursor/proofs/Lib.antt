-- `Theorems` says that a promise fixes its answer, `Laws` has what the proofs of readers cite.
pub mod Theorems
pub mod Laws
