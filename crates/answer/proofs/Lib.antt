-- `Theorems` is what a reader comes for; `Unique` says that a promise fixes its answer; `Laws` has what proofs of readers cite; `Table` the
-- rule of a table of texts; `Shown` what is read of a row of it.
pub mod Theorems
pub mod Unique
pub mod Laws
pub mod Table
pub mod Shown
