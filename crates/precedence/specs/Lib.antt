-- The order of a term.
pub mod Order
pub mod Walk
