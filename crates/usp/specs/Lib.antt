pub mod Names
pub mod Waits
