-- Definitions of the lines of events.
pub mod Lines
pub mod Said
pub mod Views
pub mod Told
pub mod Outcomes
