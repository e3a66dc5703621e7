-- What the contracts of the steps of a move say.
pub mod Steps
pub mod Shown
