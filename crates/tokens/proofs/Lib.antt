pub mod Digits
pub mod Runs
pub mod Spelling
pub mod Strays
pub mod Words
