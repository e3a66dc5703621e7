-- The entries of the book and the links between them.
pub mod Links
pub mod Differing
pub mod Comparing
pub mod Writing
pub mod Entering
pub mod Held
pub mod Under
pub mod Newness
