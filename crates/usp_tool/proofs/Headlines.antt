-- What a run of the program prints is the headline.
pub mod Rules
pub mod Places
pub mod Texts
pub mod Edge
pub mod Lab
pub mod Check
pub mod Asks
pub mod Printed
