pub mod Held
pub mod Closures
