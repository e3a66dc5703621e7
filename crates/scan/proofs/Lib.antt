-- Small projects, the laws of components, and what is given for each combination.
pub mod Examples
pub mod Components
pub mod Joined
