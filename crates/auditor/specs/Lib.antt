-- Definitions of the audit.
pub mod Bytes
pub mod Events
pub mod Taken
