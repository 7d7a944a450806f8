pub mod Family
pub mod Births
pub mod Deaths
pub mod Cascade
pub mod Walked
