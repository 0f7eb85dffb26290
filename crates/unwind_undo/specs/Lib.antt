-- `Undo` says what each operation undoes, and what a list of codes does; `Distance` which codes of a chain are undone at a stop; `Named`
-- which registers codes name; `Code` how the code's answers stand for a definition's.
pub mod Undo
pub mod Distance
pub mod Named
pub mod Code
