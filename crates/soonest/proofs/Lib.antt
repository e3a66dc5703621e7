-- The loops of the test, and the row of the schedule.
pub mod Row
pub mod Waits
