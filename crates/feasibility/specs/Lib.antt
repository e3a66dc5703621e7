-- The test as the code makes it.
pub mod Model
