-- What the contracts on the room among frozen activities say.
pub mod Work
pub mod Room
