-- `Coff` is the header, `Answers` what each answer stands for.
pub mod Coff
pub mod Answers
