-- `Theorems` is what a reader comes for; `Turns` has the laws of a search, `Ends` what its end tells, `Bound` how many records it reads,
-- `Order` what it finds on a table in order, `Laws` what the proofs of the functions cite; `Cases` computes the definitions on small
-- inputs.
pub mod Turns
pub mod Ends
pub mod Bound
pub mod Order
pub mod Laws
pub mod Theorems
mod Cases
