pub mod Numbers
pub mod Tokens
pub mod Cursor
pub mod Expected
