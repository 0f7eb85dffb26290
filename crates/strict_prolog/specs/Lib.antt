-- `Strict` has each condition of a strict prolog, and the first that fails.
pub mod Strict
