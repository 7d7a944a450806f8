pub mod Limits
pub mod Label
pub mod Task
pub mod Model
