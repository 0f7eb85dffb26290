-- `Theorems` is what a reader comes for; `Walk` says what the cursor walks, `Laws` and `Next` have what proofs cite; `Cases` computes the
-- definitions on small inputs.
pub mod Laws
pub mod Next
pub mod Walk
pub mod Theorems
mod Cases
