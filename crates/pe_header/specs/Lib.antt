-- `Header` has the checks in file order, `Answers` what each answer stands for.
pub mod Header
pub mod Answers
