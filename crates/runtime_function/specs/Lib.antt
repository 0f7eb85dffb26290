-- `RuntimeFunction` is the record, `Answers` what each answer stands for.
pub mod RuntimeFunction
pub mod Answers
