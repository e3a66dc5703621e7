-- What CHECK answers.
pub mod Answer
pub mod Words
