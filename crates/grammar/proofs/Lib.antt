-- Lemmas of the script: reading is exact, and what is spelled is read back.
pub mod Cases
pub mod Breaks
pub mod Written
pub mod Acts
pub mod Sayings
pub mod Naming
pub mod Drafts
pub mod Exact
pub mod OnePlan
pub mod Decimals
pub mod Unbroken
pub mod Placing
pub mod Canonical
pub mod Soundness
pub mod Growth
pub mod RoundTrip
