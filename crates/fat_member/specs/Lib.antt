-- `FatArch` is the record and its check, `Answers` what each answer stands for.
pub mod FatArch
pub mod Answers
