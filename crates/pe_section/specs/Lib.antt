-- `Section` is the row of a section table and the row at an index, `Answers` what each answer stands for.
pub mod Section
pub mod Answers
