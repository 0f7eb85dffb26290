-- `Section` is a section as a caller states it, `Answers` what each answer stands for.
pub mod Section
pub mod Answers
