-- Loops over the frozen activities, and where room has to be looked for.
pub mod Folds
pub mod Ends
pub mod Runs
pub mod Units
pub mod Room
pub mod Fits
pub mod Over
pub mod Beside
