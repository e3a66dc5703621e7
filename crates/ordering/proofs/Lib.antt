-- What the proofs share: branches seen one after another, and what is left in one component, with one frozen.
pub mod Branches
pub mod Lone
pub mod Rows
pub mod Ordered
pub mod Entry
