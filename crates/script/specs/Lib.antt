-- What the scripts of the code mean, and when a reader's answer agrees with the definition.
pub mod Drafts
pub mod Views
