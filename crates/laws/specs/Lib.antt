pub mod Story
pub mod Queuing
pub mod Ringing
pub mod Supervised
pub mod Lawful
