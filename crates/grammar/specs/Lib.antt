-- What the bytes of a script say.
pub mod Reading
pub mod Reads
pub mod Spellable
pub mod Spelled
