-- What the workers of an edge do together.
pub mod Summing
pub mod AtDoors
pub mod Settling
pub mod Carrying
pub mod Sitting
pub mod Joining
pub mod Together
pub mod Overall
pub mod Texts
pub mod Giving
pub mod Parting
pub mod Clearing
pub mod Running
