-- What the answers of the calls say of the areas that they were lent.
pub mod Areas
