pub mod Listing
pub mod Tasks
