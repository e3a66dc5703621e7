-- What is kept of a schedule that is found, and after all schedules of all variants.
pub mod Rows
pub mod Entries
pub mod Count
pub mod Best
pub mod Ties
pub mod Area
pub mod Passed
