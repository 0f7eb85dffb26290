-- `Table` says what a table of runtime records is and when it is in order, `Check` what checking one answers, `Answers` what each answer
-- stands for.
pub mod Table
pub mod Check
pub mod Answers
