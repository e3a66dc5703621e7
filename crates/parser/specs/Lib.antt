-- What the program's answer to a text says, and what its steps on the way say of the lines.
pub mod Answer
pub mod Counts
pub mod Steps
