-- `Next` says what reading at a cursor answers.
pub mod Next
