pub mod Choices
pub mod Countings
pub mod Unmarked
pub mod Doings
pub mod Kept
pub mod Derive
