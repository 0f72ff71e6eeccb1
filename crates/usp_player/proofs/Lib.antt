pub mod Reading
pub mod Texts
pub mod Urls
pub mod Exchanging
pub mod Going
pub mod Following
pub mod Outcomes
