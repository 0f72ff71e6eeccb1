pub mod Each
pub mod Named
pub mod Refused
pub mod Sound
pub mod Whole
