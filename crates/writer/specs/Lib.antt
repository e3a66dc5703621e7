-- What the writer's steps leave in the area.
pub mod Wrote
