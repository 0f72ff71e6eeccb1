pub mod Histories
pub mod Places
pub mod Rule
pub mod Seats
