-- Lemmas on the names of tasks.
mod Naming
