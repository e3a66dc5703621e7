-- Terms: what the definitions imply.
pub mod Reading
pub mod Counting
pub mod SomeOf
pub mod Twice
pub mod Members
pub mod Reduced
