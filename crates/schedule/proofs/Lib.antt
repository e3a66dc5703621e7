-- The theory of schedules: facts about the definitions of specs/, for any units, gaps, begun activities and floor.
pub mod Load
pub mod Reflect
pub mod Agree
pub mod Alike
pub mod Growth
pub mod Moves
pub mod Makespan
pub mod Compact
pub mod Bounds
pub mod Box
pub mod OneUnit
pub mod Lower
