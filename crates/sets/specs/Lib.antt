-- Sets of activities as numbers, and their lowest members.
pub mod Sets
pub mod Lowest
pub mod Each
