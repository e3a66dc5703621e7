-- WRITE: why its steps do what they promise, and what its bytes read back say.
pub mod Writing
pub mod RoundTrip
