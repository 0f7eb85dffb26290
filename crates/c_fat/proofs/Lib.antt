-- `Theorems` says that each promise fixes its answer.
pub mod Theorems
