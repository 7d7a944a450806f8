mod Placing
mod Finding
pub mod Orders
pub mod Ringing
