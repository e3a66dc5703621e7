-- The theorems, and how they follow from the contracts of the calls.
pub mod Refused
pub mod Unfit
pub mod Shortest
pub mod FirstEdition
pub mod Theorems
