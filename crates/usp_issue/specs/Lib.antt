pub mod Edges
pub mod Redirections
pub mod Renewals
pub mod Resignings
pub mod Routes
pub mod Sites
