-- `Record` has the four records, and what is at a place of a list of them.
pub mod Record
