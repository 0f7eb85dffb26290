-- `Theorems` is what a reader comes for; `Laws` has what proofs of readers and writers cite; `Number` the laws of numbers and bytes; `Bytes`
-- says that the library's own conversions are these.
pub mod Theorems
pub mod Number
pub mod Laws
pub mod Bytes
