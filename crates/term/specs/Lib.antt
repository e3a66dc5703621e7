-- Terms, how nodes make one, the variants of a term, the reduced terms of document 000, and which plans are valid.
-- `Model` is how the program counts and reads; it need not be believed.
pub mod Term
pub mod Variants
pub mod Clash
pub mod Reduced
pub mod Valid
pub mod Model
