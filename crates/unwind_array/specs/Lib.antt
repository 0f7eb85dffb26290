-- `Arrays` has the arrays of a chain, and the one list of its codes.
pub mod Arrays
