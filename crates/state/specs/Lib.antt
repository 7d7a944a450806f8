pub mod Faults
pub mod View
