-- The words in which the theorems are said.
pub mod TurnedBack
pub mod Unfit
pub mod Shortest
