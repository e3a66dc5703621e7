-- Variants: what the definitions imply.
pub mod Members
pub mod Pick
pub mod Picked
pub mod Order
pub mod Dissolve
pub mod Fit
pub mod RoundTrip
pub mod Instance
pub mod Words
pub mod FirstEdition
pub mod Tables
