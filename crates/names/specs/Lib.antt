-- The names that tasks have.
pub mod Names
