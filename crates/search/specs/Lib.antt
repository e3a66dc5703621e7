-- What the search's contracts say.
pub mod Choice
pub mod Branch
