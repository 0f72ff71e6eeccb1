-- What `lab` and `lab-from` run and write.
pub mod Words
pub mod Runs
pub mod Run
