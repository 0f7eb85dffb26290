-- `Theorems` is what a reader comes for; `Laws` and `HandlerLaws` have what proofs cite; `Cases` and `HandlerCases` compute the definitions
-- on small inputs.
pub mod Laws
pub mod HandlerLaws
pub mod Theorems
mod Cases
mod HandlerCases
