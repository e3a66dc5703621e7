-- What is kept of the schedules that are found.
pub mod Seen
pub mod Leaf
pub mod Entries
