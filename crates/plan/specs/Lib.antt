-- The definitions that every layer rests on: the refusals, the limits of the plan file, a plan,
-- and what a call leaves.
pub mod Refusals
pub mod Limits
pub mod Plan
pub mod Outcome
