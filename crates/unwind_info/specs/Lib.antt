-- `Unwind` is the unwind info, `Answers` what each answer stands for.
pub mod Unwind
pub mod Answers
