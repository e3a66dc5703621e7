-- What the contracts say.
pub mod Lone
