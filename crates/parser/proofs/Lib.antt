-- What lines and readers say, and the lines of a plan in their order.
pub mod Matching
pub mod Readers
pub mod Editions
pub mod Counted
pub mod Kept
pub mod Whole
