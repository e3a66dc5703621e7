-- The order of a term, and the tables of a variant: laws free of the code.
pub mod Nodes
pub mod Joined
pub mod Places
pub mod Whole
pub mod InTables
