pub mod Newborn
pub mod Burials
pub mod Visits
pub mod Going
