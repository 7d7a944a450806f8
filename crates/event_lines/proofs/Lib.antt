-- Lemmas of the lines of events.
mod Ahead
mod Digits
mod Reading
mod Telling
