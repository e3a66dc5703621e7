-- READ's answer, and READ as a walk of the term computes it.
pub mod Model
pub mod Reading
