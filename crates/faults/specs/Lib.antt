-- Definitions of refusals.
pub mod Faults
pub mod Shown
