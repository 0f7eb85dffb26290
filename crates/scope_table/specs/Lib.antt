-- `Scope` is the scope table and its entry, `Handler` the scope table of an unwind info, `Answers` what each answer stands for.
pub mod Scope
pub mod Answers
pub mod Handler
