-- The nodes of one variant: what the code's proofs go by.
pub mod Places
pub mod Walking
pub mod Spanning
pub mod Writing
pub mod Groups
pub mod Picking
