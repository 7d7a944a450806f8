-- Lemmas on shuffled lists. Assumes nothing.
pub mod Reach
