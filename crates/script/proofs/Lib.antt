-- Lemmas on lines taken one after another.
mod Telling
