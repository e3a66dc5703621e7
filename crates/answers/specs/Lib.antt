-- What LIST and BEST answer.
pub mod Listed
pub mod Shortest
pub mod Words
