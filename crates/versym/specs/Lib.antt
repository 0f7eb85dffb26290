-- `Versym` is the symbol version table, `Answers` what each answer stands for.
pub mod Versym
pub mod Answers
