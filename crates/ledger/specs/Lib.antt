pub mod Book
pub mod Counting
pub mod Kinds
pub mod Totals
