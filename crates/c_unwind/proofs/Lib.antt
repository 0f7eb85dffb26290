-- `Theorems` says that the contract of each exported function fixes what it answers.
pub mod Theorems
