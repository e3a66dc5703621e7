-- What READ answers.
pub mod Answer
