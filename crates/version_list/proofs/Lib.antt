-- `Theorems` is what a reader comes for; `Laws` has what proofs cite. Cases are with the doors, in `verdef` and `verneed`.
pub mod Laws
pub mod Theorems
