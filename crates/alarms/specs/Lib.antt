pub mod Order
pub mod Model
pub mod Laws
