pub mod Node
pub mod Living
