-- What the code of one variant is promised to do, and the model that its proofs go by.
pub mod Model
pub mod Picked
