-- Lemmas on bytes that grow at their end.
mod Growing
