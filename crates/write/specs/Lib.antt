-- What WRITE answers and leaves in the area, how it reads back, and what its steps do.
pub mod Answer
pub mod RoundTrip
pub mod Steps
