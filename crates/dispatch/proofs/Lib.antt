pub mod Waking
pub mod Unmarked
pub mod Marks
