-- `Theorems` is what a reader comes for; `Order` says which field decides; `Laws` has what proofs cite; `Cases` computes the definition on
-- small inputs.
pub mod Laws
pub mod Order
pub mod Theorems
mod Cases
