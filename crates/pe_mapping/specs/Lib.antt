-- `Mapping` says where an address lies in the file, `Answers` what each answer stands for.
pub mod Mapping
pub mod Answers
