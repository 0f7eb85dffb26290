-- `Chain` is the chain of a record with all its codes, `Cursor` the way through it; `Answers` says what each answer stands for, `Code` how
-- the
-- code's private answers stand for a definition's.
pub mod Chain
pub mod Cursor
pub mod Answers
pub mod Code
