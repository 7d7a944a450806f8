pub mod Keyed
pub mod Members
pub mod Laws
pub mod Choices
pub mod Table
