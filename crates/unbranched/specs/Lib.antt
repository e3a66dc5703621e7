-- What the contracts say.
pub mod Position
pub mod Advance
