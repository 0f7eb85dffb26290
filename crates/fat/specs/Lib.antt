-- `Fat` is the format and what each door answers, `Answers` what each answer stands for.
pub mod Answers
pub mod Fat
