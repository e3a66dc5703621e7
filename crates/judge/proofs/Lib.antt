-- What is accepted, and what the judgement says of the tables.
pub mod Accepts
pub mod Ranges
pub mod Judging
pub mod Parsing
pub mod Holding
