-- `Verdef` is the section of version definitions.
pub mod Verdef
