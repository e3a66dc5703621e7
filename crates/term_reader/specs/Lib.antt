-- What the reading of a plan's nodes says.
pub mod Reading
pub mod Walk
