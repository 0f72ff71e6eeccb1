pub mod Pairs
pub mod Keeping
pub mod Settings
pub mod Places
pub mod Headers
pub mod Descending
