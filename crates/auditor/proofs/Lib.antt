-- Lemmas of the audit.
mod Apart
mod Endian
mod Framing
mod Telling
