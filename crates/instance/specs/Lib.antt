-- What the contracts on the table of a variant say.
pub mod Table
pub mod Instance
pub mod Steps
