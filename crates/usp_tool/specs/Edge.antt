-- What `edge` serves and writes.
pub mod Words
pub mod AtDoor
pub mod Turns
pub mod Sums
pub mod Joins
pub mod Desks
pub mod Workers
pub mod Text
pub mod Run
