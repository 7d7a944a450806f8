pub mod Row
pub mod Closures
pub mod Model
