pub mod Number
pub mod Field
pub mod Answers
