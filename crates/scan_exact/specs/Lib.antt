-- A diagram of the scan as a node of the search.
pub mod Standing
pub mod Comes
