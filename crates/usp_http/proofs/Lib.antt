pub mod Rooms
pub mod Hosts
pub mod Heads
pub mod Buffers
pub mod Reading
pub mod Finding
pub mod Texts
pub mod Spelling
