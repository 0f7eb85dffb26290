-- `Optional` has the needed fields of the header, `Answers` what each answer stands for.
pub mod Optional
pub mod Answers
