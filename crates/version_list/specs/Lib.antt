-- `List` is a list of version records and what a door on one answers and leaves; `Place` is where the next record of one is.
pub mod List
pub mod Place
