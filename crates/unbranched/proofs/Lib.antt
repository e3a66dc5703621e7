-- The moves without a branch.
pub mod Onward
pub mod Jumped
pub mod Selecting
pub mod Alone
pub mod Whole
pub mod Advancing
