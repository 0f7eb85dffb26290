-- `Sections` says how a C caller states the section table.
pub mod Sections
