-- The digits at the front of a text, and a form read byte by byte.
pub mod Values
pub mod Forms
