-- What the contracts say.
pub mod Rest
