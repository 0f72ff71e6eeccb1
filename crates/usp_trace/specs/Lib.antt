pub mod Chains
pub mod Descent
pub mod Grants
pub mod Index
pub mod Issues
pub mod Laws
pub mod Sound
