-- Definitions of lines.
pub mod Lines
pub mod Left
