-- Which plan files are accepted, and how the program holds an accepted plan.
pub mod Judge
pub mod Campaign
pub mod Judged
