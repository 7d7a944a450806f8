pub mod Link
pub mod Linked
