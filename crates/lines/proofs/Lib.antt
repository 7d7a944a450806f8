-- Lemmas of lines.
mod Cuts
