-- `Exception` says what opening the exception data answers, and the record at an index; `Answers` what each answer stands for.
pub mod Exception
pub mod Answers
