-- `Codes` has the codes of an unwind info, `Answers` what each answer stands for, `Code` what the answers of private functions stand for.
pub mod Codes
pub mod Answers
pub mod Code
