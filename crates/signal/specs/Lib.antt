pub mod Complete
pub mod Model
pub mod Laws
pub mod Calls
