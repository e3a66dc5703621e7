-- The variants are swept one by one.
pub mod Held
pub mod Booking
pub mod Turns
pub mod Loop
