-- `Names` has the name of each register, `Operation` is the table of operations and the operation at a slot, `Answers` what each answer
-- stands for, `Code` what the private enums of src/ stand for.
pub mod Names
pub mod Operation
pub mod Answers
pub mod Code
