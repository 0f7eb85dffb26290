-- `Halving` is the search over any table, `Lookup` what the doors answer, `Answers` what each answer stands for; `Code` is how the code
-- writes down a search.
pub mod Halving
pub mod Lookup
pub mod Answers
pub mod Code
