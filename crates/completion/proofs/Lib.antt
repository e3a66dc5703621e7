-- The laws that the proofs of the functions rest on.
pub mod Latest
pub mod Readied
pub mod Apart
pub mod Earliest
pub mod Counted
pub mod Opened
pub mod Completed
pub mod Turned
pub mod Started
pub mod Found
