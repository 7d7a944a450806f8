-- Definitions of the checksum.
pub mod Crc
pub mod Fed
