-- CHECK: laws free of the code, and what its answer means.
pub mod Checking
pub mod Meaning
