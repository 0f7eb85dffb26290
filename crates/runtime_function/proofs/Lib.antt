-- `Theorems` is what a reader comes for; `Cases` computes the definition on small inputs.
pub mod Theorems
mod Cases
