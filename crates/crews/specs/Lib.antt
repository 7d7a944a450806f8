pub mod Script
pub mod Rehearsals
pub mod Behaviours
pub mod Duties
