pub mod Rehearsed
pub mod Behaved
pub mod Dutiful
