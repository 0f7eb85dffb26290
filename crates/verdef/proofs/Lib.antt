-- `Theorems` is what a reader comes for; `Cases` computes the definitions on small inputs.
pub mod Theorems
mod Cases
