-- The schedule that is tested, and what the test by another order says.
pub mod Row
pub mod Soonest
