-- `Recovered` has what unwinding gives after any body.
pub mod Recovered
