-- The facts behind the test.
pub mod Right
pub mod Meaning
