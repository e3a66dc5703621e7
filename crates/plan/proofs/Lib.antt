-- The node that a letter and a number name.
pub mod Nodes
