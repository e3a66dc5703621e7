-- What the contracts on how many may yet be contested say.
pub mod Crowd
