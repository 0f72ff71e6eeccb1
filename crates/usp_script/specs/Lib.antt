pub mod Drafts
pub mod Fields
pub mod Generator
pub mod Kept
pub mod Loads
pub mod Reading
pub mod Refused
pub mod Script
