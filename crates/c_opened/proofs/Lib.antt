-- `Theorems` says what is proved of opened data as a C caller states it.
pub mod Theorems
