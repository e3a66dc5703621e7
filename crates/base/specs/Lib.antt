-- What every layer counts, sums, lists and orders by.
pub mod Below
pub mod Lists
pub mod Order
