-- Laws that the proofs of the writer's functions cite.
pub mod Laws
pub mod Lines
pub mod Pieces
pub mod Text
