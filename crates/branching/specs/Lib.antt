-- The nodes of the search, the schedules under one, and their rows.
pub mod Node
pub mod Under
pub mod Rows
