-- `Answer` has the numbers and what an answer stands for, `Bit` a yes or no as a number; `Test` the checks that definitions go by; `Words` the
-- words.
pub mod Answer
pub mod Bit
pub mod Test
pub mod Words
