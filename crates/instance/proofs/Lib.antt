-- What the proofs of the table share.
pub mod Fill
pub mod Stores
pub mod Components
pub mod Merging
pub mod Links
pub mod Clashes
pub mod Same
pub mod Given
pub mod Whole
pub mod Kept
pub mod Variants
pub mod Own
