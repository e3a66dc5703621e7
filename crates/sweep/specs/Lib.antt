-- What is kept of the schedules of all variants of a plan.
pub mod Booked
pub mod Swept
