-- `State` has the registers and the window of stack words; `Code` the word at an address, by what the code is lent.
pub mod State
pub mod Code
