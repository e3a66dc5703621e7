-- Laws of the reading of nodes, free of the code.
pub mod Tables
pub mod Masks
pub mod Walks
