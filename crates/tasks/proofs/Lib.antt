pub mod Changes
pub mod Registries
