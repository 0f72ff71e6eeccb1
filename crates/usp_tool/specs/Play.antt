-- What `play` asks for and writes.
pub mod Words
pub mod Text
pub mod Run
