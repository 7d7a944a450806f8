-- What is written of a script.
pub mod Grown
