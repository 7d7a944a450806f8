pub mod Families
pub mod Growth
