-- One variant of a plan: its precedence, its project, its sessions, its order in tables, and how it is written out.
pub mod Precedence
pub mod Project
pub mod Timetable
pub mod Pairs
pub mod Words
pub mod FirstEdition
pub mod Written
pub mod Tables
pub mod Pick
