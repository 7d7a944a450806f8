pub mod Sound
pub mod Calls
pub mod Laws
