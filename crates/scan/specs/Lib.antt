-- The scan over any project.
pub mod Components
pub mod Scan
