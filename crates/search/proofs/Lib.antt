-- The branches of the search.
pub mod Choosing
pub mod Going
pub mod Chosen
pub mod Last
pub mod Rivals
pub mod Branches
pub mod Descended
pub mod Entry
