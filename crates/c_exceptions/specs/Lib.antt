-- `Stated` says what the doors on opened data answer where a C caller states the data.
pub mod Stated
