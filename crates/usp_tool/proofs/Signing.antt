-- What `sign` does, line by line.
pub mod Line
pub mod Lines
