-- `Step` is the unwinding step; `Answers` what its answers stand for; `Code` how the answers on the way stand for a definition's.
pub mod Step
pub mod Answers
pub mod Code
