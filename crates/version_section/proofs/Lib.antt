-- `Theorems` is what a reader comes for; `Laws` has what proofs of the doors on a section cite, `Order` the law of the two byte orders;
-- `Cases` computes the definitions on small inputs.
pub mod Theorems
pub mod Laws
pub mod Order
mod Cases
