-- Lemmas of the checksum.
mod Linear
mod Rule
