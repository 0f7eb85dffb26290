-- `Numbers` has the headers as the numbers that C is handed, or hands in.
pub mod Numbers
