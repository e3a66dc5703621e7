-- The scan over any project finds its active schedules, each once.
pub mod Rooms
pub mod Standing
pub mod Selected
pub mod Attached
pub mod Moved
pub mod Components
pub mod Choices
pub mod Combinations
pub mod Fewer
pub mod Schedules
pub mod Parts
pub mod Regular
pub mod Passed
pub mod Comes
