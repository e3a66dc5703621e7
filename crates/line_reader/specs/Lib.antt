-- What a line read in part says of the text.
pub mod Seen
