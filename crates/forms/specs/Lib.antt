pub mod Forms
pub mod Meaning
pub mod Steps
pub mod Views
