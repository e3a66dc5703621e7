-- From the sessions of each variant to the plan as a whole.
pub mod Variant
pub mod Existing
pub mod Found
pub mod Union
pub mod Pairs
pub mod Rows
pub mod Shortest
pub mod Meaning
pub mod Answers
