-- `Theorems` says that the contracts fix what C is handed.
pub mod Theorems
