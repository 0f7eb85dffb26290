-- `Verneed` is the section of version needs.
pub mod Verneed
