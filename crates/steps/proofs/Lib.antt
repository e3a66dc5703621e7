-- The steps of the code are those of the scan on the diagram that line and working array show.
pub mod Own
pub mod Given
pub mod Free
pub mod Sets
pub mod Live
pub mod Deleted
pub mod Attached
pub mod Moved
pub mod Selected
pub mod Resolved
pub mod Loops
pub mod Ready
