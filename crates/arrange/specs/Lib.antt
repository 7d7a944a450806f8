-- Draws, decks and orders. Assumes nothing.
pub mod Deck
pub mod Draws
pub mod Order
pub mod Reach
pub mod Shuffle
pub mod SplitMix
pub mod Tape
