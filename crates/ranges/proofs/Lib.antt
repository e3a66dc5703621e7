-- The laws of these tests.
pub mod Units
