-- Schedules: what is feasible, what is active, the makespan, and the list of the active ones.
pub mod Project
pub mod Schedule
pub mod Sessions
pub mod Bounds
pub mod Facts
pub mod Words
