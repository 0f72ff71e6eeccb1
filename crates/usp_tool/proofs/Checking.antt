-- What `check` does, line by line.
pub mod Fields
pub mod Lines
pub mod Verdicts
