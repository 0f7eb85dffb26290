-- `Links` has the place of a record's info, the info, and the next one; `Answers` what each answer stands for.
pub mod Answers
pub mod Links
