-- Laws of how many may yet be contested, what the loop that counts them keeps, and how many fewer there are once one is
-- frozen.
pub mod Crowd
pub mod Counting
pub mod Frozen
