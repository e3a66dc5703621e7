-- The orders of the variants searched so far.
pub mod Book
