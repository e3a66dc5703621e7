-- Laws of tests, of what is said of the numbers below n, and of lists.
pub mod Bools
pub mod Below
pub mod Lists
pub mod Sums
pub mod Every
pub mod Order
