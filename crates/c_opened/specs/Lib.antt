-- `Opened` says how a C caller states opened exception data, `Answers` what the answer stands for.
pub mod Opened
pub mod Answers
