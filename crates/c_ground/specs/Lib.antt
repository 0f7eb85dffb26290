-- `Fields` names what reading and writing a field answers at each width.
pub mod Fields
