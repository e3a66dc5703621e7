-- The search by one freeze at a time: its nodes, its branches, and the rows under a node.
pub mod First
pub mod Room
pub mod Fit
pub mod Node
pub mod Under
pub mod Chosen
pub mod Rows
pub mod Rank
